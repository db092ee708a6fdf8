use Rattle.std.proofs.Common.{◌∷◌, ◌++◌, refl, inl, inr, encode_utf8_all}
use Rattle.std.specs.Prelude.{codes}
use Rattle.std.specs.Duration.{as_nanos}
use Rattle.std.specs.Fmt.{decimal}
use Rattle.duration_str_refusals.specs.Messages.{message_of}
use Rattle.durstr_run.specs.Output.{IsLineOutput}
use Rattle.durstr_run.proofs.output.push_line.Goals as goal

pub returns-in_default : goal.returns-in_default
unfolding IsLineOutput
returns-in_default g c = (codes "not UTF-8", inr (c.in_default.ensures.not_text, refl), c.in_ok-push_str.ensures.bytes)

pub returns-in_ok-push_value-in-Ok : goal.returns-in_ok-push_value-in-Ok
unfolding IsLineOutput
returns-in_ok-push_value-in-Ok g c =
    let nanos = as_nanos c.in-Ok.duration in
    let human = c.in_ok-push_value-in-Ok.ensures.0 in (
      decimal nanos ++ (32 ∷ encode_utf8_all human),
      record {
        nanos = nanos;
        human = human;
        utf8 = c.in-Some.ensures.text.1;
        read = rw c.in-Some.ensures.text.0 at c.in-Ok.ensures.read;
        human_printed = c.in_ok-push_value-in-Ok.ensures.1;
        shown = refl;
      },
      c.in_ok-push_value-in-Ok.ensures.2,
    )

pub returns-in_ok-writeln-in-Err : goal.returns-in_ok-writeln-in-Err
unfolding IsLineOutput
returns-in_ok-writeln-in-Err g c =
    let fault = c.in-Err.fault in (
      message_of c.args.line.now fault.cause,
      inl (record {
        cause = fault.cause;
        utf8 = c.in-Some.ensures.text.1;
        refused = rw c.in-Some.ensures.text.0 at c.in-Err.ensures.refused.1;
        shown = refl;
      }),
      rw c.in-Some.ensures.text.0 at rw c.in-Err.ensures.refused.0 at c.in_ok-writeln-in-Err.ensures.bytes,
    )
