use Rattle.duration_str_refusals.proofs.Common.{append_assoc, chars, chars_rest, codes, encode_utf8_all, IsUtf8-past_char, rules, take, ◌++◌, ◌-◌, ◌≡◌}
use Rattle.duration_str_help.specs.Quotes.{quoted, quoted_end, shown}
use Rattle.duration_str_base.proofs.BufferLemmas.{end_inside, whole_is_longer}
use Rattle.duration_str_refusals.proofs.OneLineLemmas.{quoted_all, quoted_clear, quoted_cut, quoted_more}
use Rattle.duration_str_refusals.proofs.one_line.put_quoted.Goals.{After-put_shown, After-put_text}
use Rattle.duration_str_refusals.proofs.one_line.put_quoted.Goals as goal

more : (c : After-put_shown)
    → (take c.loop-c.end c.loop-c.buffer ++ encode_utf8_all (shown c.in-Some.c))
    ++ quoted_end (c.loop-c.room - c.shown_len-width.result) (chars (chars_rest c.next.new.self))
    ≡ take c.args.at c.args.buffer.now ++ quoted (chars c.args.text.now)
more c = search (rules, quoted_more)

clear : (c : After-put_text)
    → (take c.in_ok-end.end c.put.new.buffer ++ c.args.text.now) ++ codes "\""
    ≡ take c.args.at c.args.buffer.now ++ quoted (chars c.args.text.now)
clear c = search (rules, quoted_clear, append_assoc)

pub returns-in_err-end-2 : goal.returns-in_err-end-2
returns-in_err-end-2 c =
    rw c.from_residual-in_err-end-2.ensures (whole_is_longer _ _ _ _ (clear (goal.at.returns-in_err-end-2 c).After-put_text)
    (c.in_err-end-2.ensures {u = tt}))

pub returns-then-are_clear : goal.returns-then-are_clear
returns-then-are_clear c =
    rw (← clear (goal.at.returns-then-are_clear c).After-put_text)
    (rw (c.in_ok-end-2.ensures {u = tt}).1 at c.put-then-are_clear.ensures.0)

pub returns-then-width-room : goal.returns-then-width-room
returns-then-width-room c =
    let held = c.loop-c.invariant in
    rw (quoted_cut _ _ _ _ c.loop-c.room c.in-Some.c (rw c.shown_len-width.ensures at c.if-width-room.true) held.utf8
    (c.in-Some.ensures {u = tt}).steps.0 held.whole) at c.put-then-width-room.ensures.0

pub returns-in_err-end-3 : goal.returns-in_err-end-3
returns-in_err-end-3 c =
    rw c.from_residual-in_err-end-3.ensures (whole_is_longer _ _ _ _ (more (goal.at.returns-in_err-end-3 c).After-put_shown)
    (c.in_err-end-3.ensures {u = tt}))

pub loop-c-preserved : goal.loop-c-preserved
loop-c-preserved c =
    let wrote = c.in_ok-end-3.ensures {u = tt} in
    record {
      utf8 = IsUtf8-past_char _ _ c.in-Some.c c.loop-c.invariant.utf8 (c.in-Some.ensures {u = tt}).steps.0;
      inside = end_inside _ _ _ wrote.0 wrote.1;
      whole = rw wrote.1 (more (goal.at.loop-c-preserved c).After-put_shown);
    }

pub returns : goal.returns
returns c =
    let held = c.loop-c.invariant in
    rw (quoted_all _ _ _ c.loop-c.room (c.in_default.ensures {u = tt}).steps.0.0 held.whole) at c.put-2.ensures.0
