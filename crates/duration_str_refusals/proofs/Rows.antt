-- Examples that were worked out by hand, and are computed here, such as the texts of faults.
use Rattle.duration_str_refusals.proofs.Common.{[], Cause, codes, Empty, encode_utf8_all, false, List, map, message_of, Mixed, None, NotText, NumberTooLarge, off, OutOfRange, Overflow, Plus, refl, replicate, rules_of, Some, Star, Syntax, true, ℕ, ◌++◌, ◌∷◌, ◌≡◌}
use Rattle.duration_str_base.specs.declared.options.Options.{Options}
use Rattle.duration_str_refusals.specs.Faults.{run_at}
use Rattle.duration_str_refusals.specs.OneLine.{one_line_of, reason_of}
use Rattle.duration_str_refusals.specs.Report.{is_wide, report_of}
use Rattle.duration_str_base.proofs.Samples.{after_number, after_number-no_calc, after_unit, after_unit-no_calc, number_alone, unit_alone}
use Rattle.duration_str_base.specs.Humantime.{humantime_rules}
use Rattle.std.specs.Fmt.{digits}
use Rattle.std.specs.Str.{chars}
use lib.Utf8.{encode}

-- ---- Messages

pub record Messages : Type 0 where
  pub caret-by_characters : message_of (encode_utf8_all (codes "1µs 分")) (Syntax 5 after_unit)
      ≡ encode_utf8_all (codes "1µs 分" ++ 10 ∷ codes "    ^" ++ 10 ∷ codes "expected ['+', '*']")
  pub byte-after_line_feeds : message_of (codes "1m" ++ 10 ∷ codes "+" ++ 10 ∷ codes "x") (Syntax 5 number_alone)
      ≡ codes "byte 5: expected number"
  pub line-alone : message_of (codes "1m 2s*3") (Mixed Plus Star) ≡ codes "not support '+' with '*' calculate"
  pub line-empty : message_of [] Empty ≡ codes "Empty input"
  pub line-number : message_of [] (NumberTooLarge None) ≡ codes "number too large to fit in target type"
  pub line-overflow : message_of (codes "600y") (Overflow (Some 0)) ≡ codes "600y\n^\noverflow error"
  pub line-unit : message_of (codes "1x") (Syntax 1 after_number) ≡ encode_utf8_all (
      codes "1x\n ^\nexpected [\"y\", \"q\", \"mon\", \"w\", \"d\", \"h\", \"m\", \"s\", \"ms\", \"µs\", \"us\", \"ns\"]")
  pub line-no_operator : message_of (codes "1m+") (Syntax 2 after_unit-no_calc) ≡ codes "1m+\n  ^\nexpected number"
  pub line-no_text : message_of [] (NotText false) ≡ codes "expect duration string, e.g: '1min+30'"
  pub line-no_text_or_null : message_of [] (NotText true) ≡ codes "expect duration string, null, or missing field"

pub messages : Messages
unfolding chars digits encode
messages = assumption

-- ---- Faults in one line

-- 41 characters of four bytes each
abbrev long_word : List ℕ
long_word = replicate 41 0x1F600

-- the line of a text that is refused with all options off
abbrev line : List ℕ → Cause → List ℕ
line text cause = one_line_of (rules_of off) text cause

pub record Lines : Type 0 where
  -- ---- What is wrong with the text
  pub line-empty : line [] Empty ≡ codes "empty text"
  pub line-too_large : line (codes "  18446744073709551616s") (NumberTooLarge (Some 0))
      ≡ codes "number of 2^64 or more in \"  18446744073709551616s\""
  pub line-overflow : line (codes "600y") (Overflow (Some 0)) ≡ codes "duration of over 584 years in \"600y\""
  pub line-number_alone : line (codes " 1700000000000000000") (Overflow (Some 0))
      ≡ codes "duration of over 584 years in \" 1700000000000000000\" (write the number's unit, such as ns)"
  pub line-step : line (codes "1ns*20000000000") (Overflow None)
      ≡ codes "step of over 584 years in \"1ns*20000000000\""
  pub line-mixed : line (codes "2*1h 30m") (Mixed Star Plus) ≡ codes "sum and product mixed in \"2*1h 30m\""
  pub line-date : line [] OutOfRange ≡ codes "date out of range"
  -- ---- What was expected, and what stands there
  pub line-sign_between : line (codes "3ms-2ms") (Syntax 3 after_unit)
      ≡ codes "expected a number, '+', '*' or the end at column 4, found \"-\""
  pub line-end : line (codes "3+") (Syntax 2 number_alone) ≡ codes "expected a number at column 3, found the end"
  pub line-digits : line (encode_utf8_all (codes "1µs 2 345")) (Syntax 7 after_number-no_calc)
      ≡ codes "expected a unit or the end at column 7, found \"345\""
  pub line-digits_alone : line (codes "1 2x") (Syntax 2 after_number)
      ≡ codes "expected a unit, '+', '*' or the end at column 3, found \"2\""
  pub line-letters : line (encode_utf8_all (codes "1h 时x2")) (Syntax 3 after_unit-no_calc)
      ≡ encode_utf8_all (codes "expected a number or the end at column 4, found \"时x\"")
  pub line-sign_beyond_ascii : line (encode_utf8_all (codes "1：30")) (Syntax 1 after_number)
      ≡ encode_utf8_all (codes "expected a unit, '+', '*' or the end at column 2, found \"：\"")
  -- ---- Escapes, and what is cut off
  pub line-escape : line (49 ∷ 27 ∷ []) (Syntax 1 after_number)
      ≡ codes "expected a unit, '+', '*' or the end at column 2, found \"\\u{1b}\""
  pub line-quote : line (codes "1m\"") (Syntax 2 after_unit)
      ≡ codes "expected a number, '+', '*' or the end at column 3, found \"\\\"\""
  pub line-hidden : line (encode_utf8_all (49 ∷ 0xAD ∷ [])) (Syntax 1 after_number)
      ≡ codes "expected a unit, '+', '*' or the end at column 2, found \"\\u{ad}\""
  pub line-wide_blank : line (encode_utf8_all (49 ∷ 0x3000 ∷ codes "m")) (Syntax 1 after_number)
      ≡ codes "expected a unit, '+', '*' or the end at column 2, found \"\\u{3000}\""
  pub line-blanks : line (9 ∷ 13 ∷ 10 ∷ codes "600y") (Overflow (Some 0))
      ≡ codes "duration of over 584 years in \"\\t\\r\\n600y\""
  pub line-tags : line (encode_utf8_all (codes "585y" ++ replicate 5 0xE0041)) (Overflow (Some 0))
      ≡ codes "duration of over 584 years in \"585y\\u{e0041}\\u{e0041}\\u{e0041}\\u{e0041}\"..."
  pub line-forty : line (replicate 40 57) (NumberTooLarge (Some 0))
      ≡ codes "number of 2^64 or more in \"9999999999999999999999999999999999999999\""
  pub line-longest : line (encode_utf8_all (49 ∷ long_word)) (Syntax 1 after_number)
      ≡ encode_utf8_all (codes "unknown unit \"" ++ replicate 40 0x1F600
      ++ codes "\"... at column 2 (write y, q, mon, w, d, h, min, s, ms, us or ns)")
  -- ---- Help with a unit
  pub line-near : line (codes "1h 5 mins") (Syntax 5 after_number)
      ≡ codes "unknown unit \"mins\" at column 6 (did you mean \"min\"?)"
  pub line-capitals : line (codes "2 MONS") (Syntax 2 after_number)
      ≡ codes "unknown unit \"MONS\" at column 3 (did you mean \"mon\"?)"
  pub line-small_mo : line (codes "3mo") (Syntax 1 after_number)
      ≡ codes "unknown unit \"mo\" at column 2 (did you mean \"mon\"?)"
  pub line-small_mos : line (codes "3mos") (Syntax 1 after_number)
      ≡ codes "unknown unit \"mos\" at column 2 (did you mean \"mon\"?)"
  pub line-capital_mo : line (codes "3Mo") (Syntax 1 after_number)
      ≡ codes "unknown unit \"Mo\" at column 2 (write y, q, mon, w, d, h, min, s, ms, us or ns)"
  pub line-ascii : line (codes "5 micros") (Syntax 2 after_number)
      ≡ codes "unknown unit \"micros\" at column 3 (did you mean \"us\"?)"
  pub line-micro_sign : line (encode_utf8_all (codes "5 µsecs")) (Syntax 2 after_number)
      ≡ encode_utf8_all (codes "unknown unit \"µsecs\" at column 3 (did you mean \"us\"?)")
  pub line-greek_mu : line (encode_utf8_all (codes "5 μS")) (Syntax 2 after_number)
      ≡ encode_utf8_all (codes "unknown unit \"μS\" at column 3 (did you mean \"us\"?)")
  -- ---- Help with a notation
  pub line-fraction : line (codes "1.5h") (Syntax 1 after_number)
      ≡ codes "expected a unit, '+', '*' or the end at column 2, found \".\" (fractions are not read: write 90min)"
  pub line-fraction_of_any_unit : one_line_of (humantime_rules off) (codes "0.5y") (Syntax 1 unit_alone)
      ≡ codes "expected a unit at column 2, found \".\" (fractions are not read: write 4383h)"
  pub line-fraction_without_a_mend : line (codes "0.3ns") (Syntax 1 after_number)
      ≡ codes "expected a unit, '+', '*' or the end at column 2, found \".\" (numbers have digits only)"
  pub line-point_after_unit : line (codes "5 min.") (Syntax 5 after_unit)
      ≡ codes "expected a number, '+', '*' or the end at column 6, found \".\" (units have no point)"
  pub line-point_after_chinese : line (encode_utf8_all (codes "1分.")) (Syntax 4 after_unit)
      ≡ codes "expected a number, '+', '*' or the end at column 3, found \".\" (units have no point)"
  pub line-point_alone : line (codes "5 .") (Syntax 2 after_number)
      ≡ codes "expected a unit, '+', '*' or the end at column 3, found \".\""
  pub line-point_after_a_blank : line (codes "5 .5h") (Syntax 2 after_number)
      ≡ codes "expected a unit, '+', '*' or the end at column 3, found \".\" (numbers have digits only)"
  pub line-point_between : line (codes "5m.5s") (Syntax 2 after_unit)
      ≡ codes "expected a number, '+', '*' or the end at column 3, found \".\" (units have no point)"
  pub line-comma : line (codes "1,000ms") (Syntax 1 after_number)
      ≡ codes "expected a unit, '+', '*' or the end at column 2, found \",\" (numbers have digits only)"
  pub line-underscore : line (codes "1_000ms") (Syntax 1 after_number)
      ≡ codes "expected a unit, '+', '*' or the end at column 2, found \"_\" (numbers have digits only)"
  pub line-apostrophe_between : line (codes "1'000ms") (Syntax 1 after_number)
      ≡ codes "expected a unit, '+', '*' or the end at column 2, found \"'\" (numbers have digits only)"
  pub line-exponent : line (codes "1e3s") (Syntax 1 after_number)
      ≡ codes "unknown unit \"e\" at column 2 (numbers have digits only)"
  pub line-exponent_below_zero : line (codes "5e-3s") (Syntax 1 after_number-no_calc)
      ≡ codes "unknown unit \"e\" at column 2 (numbers have digits only)"
  pub line-exponent_with_plus : line (codes "2E+5ms") (Syntax 1 after_number)
      ≡ codes "unknown unit \"E\" at column 2 (numbers have digits only)"
  pub line-exponent_alone : line (codes "1e") (Syntax 1 after_number)
      ≡ codes "unknown unit \"e\" at column 2 (write y, q, mon, w, d, h, min, s, ms, us or ns)"
  pub line-exponent_after_a_blank : line (codes "1 e3") (Syntax 2 after_number)
      ≡ codes "unknown unit \"e\" at column 3 (write y, q, mon, w, d, h, min, s, ms, us or ns)"
  pub line-clock : line (codes "1:30") (Syntax 1 after_number)
      ≡ codes "expected a unit, '+', '*' or the end at column 2, found \":\" (clock times are not read: write 1h 30m or 1m 30s)"
  pub line-colon_alone : line (codes "1:") (Syntax 1 after_number)
      ≡ codes "expected a unit, '+', '*' or the end at column 2, found \":\""
  pub line-minus : line (codes " -5m") (Syntax 1 number_alone)
      ≡ codes "expected a number at column 2, found \"-\" (negative durations are not read)"
  pub line-minus_point : line (codes "-.5s") (Syntax 0 number_alone)
      ≡ codes "expected a number at column 1, found \"-\" (negative durations are not read)"
  pub line-plus : line (codes "\t+1h") (Syntax 1 number_alone)
      ≡ codes "expected a number at column 2, found \"+\" (a leading \"+\" is not read)"
  pub line-plus_point : line (codes "+.5s") (Syntax 0 number_alone)
      ≡ codes "expected a number at column 1, found \"+\" (a leading \"+\" is not read)"
  pub line-plus_blank : line (codes "+ 1h") (Syntax 0 number_alone)
      ≡ codes "expected a number at column 1, found \"+\""
  pub line-plus_later : line (codes "1++2") (Syntax 2 number_alone)
      ≡ codes "expected a number at column 3, found \"+\""
  pub line-other_first : line (codes "*5m") (Syntax 0 number_alone)
      ≡ codes "expected a number at column 1, found \"*\""
  pub line-bracket : line (codes "(5m") (Syntax 0 number_alone)
      ≡ codes "expected a number at column 1, found \"(\" (brackets are not read)"
  pub line-bracket_later : line (codes "5m)") (Syntax 2 after_unit)
      ≡ codes "expected a number, '+', '*' or the end at column 3, found \")\" (brackets are not read)"
  pub line-slash : line (codes "1/2h") (Syntax 1 after_number)
      ≡ codes "expected a unit, '+', '*' or the end at column 2, found \"/\" (division is not read)"
  pub line-slash_without_a_unit : line (codes "90 / 2") (Syntax 3 unit_alone)
      ≡ codes "expected a unit at column 4, found \"/\" (division is not read)"
  pub line-quotation_mark : line (codes " \"5m\"") (Syntax 1 number_alone)
      ≡ codes "expected a number at column 2, found \"\\\"\" (quotation marks are not read)"
  pub line-apostrophe : line (codes "'5m'") (Syntax 0 number_alone)
      ≡ codes "expected a number at column 1, found \"'\" (quotation marks are not read)"
  pub line-quotation_mark_later : line (codes "5m\"") (Syntax 2 after_unit)
      ≡ codes "expected a number, '+', '*' or the end at column 3, found \"\\\"\""
  pub line-iso : line (codes "Pt5M") (Syntax 0 number_alone)
      ≡ codes "expected a number at column 1, found \"Pt\" (ISO 8601 is not read: write 1mon 30m, for example)"
  pub line-iso_day : line (codes "p1D") (Syntax 0 number_alone)
      ≡ codes "expected a number at column 1, found \"p\" (ISO 8601 is not read: write 1mon 30m, for example)"
  pub line-iso_point : line (codes "P.5D") (Syntax 0 number_alone)
      ≡ codes "expected a number at column 1, found \"P\""
  pub line-comma_between : line (codes "1h, 30m") (Syntax 2 after_unit)
      ≡ codes "expected a number, '+', '*' or the end at column 3, found \",\" (one duration is read, without \",\" or \"and\")"
  pub line-comma_after_an_operator : line (codes "1h + ,") (Syntax 5 number_alone)
      ≡ codes "expected a number at column 6, found \",\""
  pub line-and : line (codes "1h And 30m") (Syntax 3 after_unit-no_calc)
      ≡ codes "expected a number or the end at column 4, found \"And\" (one duration is read, without \",\" or \"and\")"
  pub line-ampersand : line (codes "1h & 30m") (Syntax 3 after_unit)
      ≡ codes "expected a number, '+', '*' or the end at column 4, found \"&\" (one duration is read, without \",\" or \"and\")"
  pub line-and_a_unit : line (codes "5 & 3") (Syntax 2 after_number)
      ≡ codes "expected a unit, '+', '*' or the end at column 3, found \"&\""
  -- ---- Help with a number that lacks its unit
  pub line-unit_alone : line (codes "1h 30") (Syntax 5 unit_alone)
      ≡ codes "expected a unit at column 6, found the end (write the number's unit: y, q, mon, w, d, h, min, s, ms, us or ns)"
  pub line-unit_before_a_sign : line (codes "90+1") (Syntax 2 unit_alone)
      ≡ codes "expected a unit at column 3, found \"+\" (write the number's unit: y, q, mon, w, d, h, min, s, ms, us or ns)"
  pub line-zeros : line (codes " 00\t") (Syntax 4 unit_alone)
      ≡ codes "expected a unit at column 5, found the end (write 0s)"
  pub line-zero_after_zero : line (codes "0 0") (Syntax 2 unit_alone)
      ≡ codes "expected a unit at column 3, found \"0\" (write 0s)"
  pub line-number_after_zero : line (codes "0 5") (Syntax 2 unit_alone)
      ≡ codes "expected a unit at column 3, found \"5\" (write the number's unit: y, q, mon, w, d, h, min, s, ms, us or ns)"
  pub line-zero_after_a_unit : line (codes "1h 0") (Syntax 4 unit_alone)
      ≡ codes "expected a unit at column 5, found the end (write the number's unit: y, q, mon, w, d, h, min, s, ms, us or ns)"
  pub line-unit_or_the_end : line (codes "0 0") (Syntax 2 after_number-no_calc)
      ≡ codes "expected a unit or the end at column 3, found \"0\""
  pub line-clock_without_a_unit : line (codes "0:00") (Syntax 1 unit_alone)
      ≡ codes "expected a unit at column 2, found \":\" (clock times are not read: write 1h 30m or 1m 30s)"
  pub line-letters_after_zero : line (codes "0 x") (Syntax 2 unit_alone)
      ≡ codes "unknown unit \"x\" at column 3 (write y, q, mon, w, d, h, min, s, ms, us or ns)"

pub lines : Lines
unfolding chars digits encode
lines = assumption

-- ---- Reasons

-- the reason of a text that is refused with all options off
abbrev reason : List ℕ → Cause → List ℕ
reason text cause = reason_of (rules_of off) text cause

pub record Reasons : Type 0 where
  pub reason-near_word : reason (codes "5 mins") (Syntax 2 after_number) ≡ codes "unknown unit \"mins\" (did you mean \"min\"?)"
  pub reason-other_word : reason (codes "5 at column 3") (Syntax 2 after_number)
      ≡ codes "unknown unit \"at\" (write y, q, mon, w, d, h, min, s, ms, us or ns)"
  pub reason-sign : reason (codes "1m 3-5") (Syntax 4 after_number)
      ≡ codes "expected a unit, '+', '*' or the end, found \"-\""
  pub reason-negative : reason (codes "-5m") (Syntax 0 number_alone)
      ≡ codes "expected a number, found \"-\" (negative durations are not read)"
  pub reason-word_after_an_operator : reason (codes "1h + at column 6") (Syntax 5 number_alone)
      ≡ codes "expected a number, found \"at\""
  pub reason-end : reason (codes "3+") (Syntax 2 number_alone) ≡ codes "expected a number, found the end"
  pub reason-fraction : reason (codes "1.5h") (Syntax 1 after_number)
      ≡ codes "expected a unit, '+', '*' or the end, found \".\" (fractions are not read: write 90min)"
  pub reason-fraction_without_a_mend : reason (codes "1.5x") (Syntax 1 after_number)
      ≡ codes "expected a unit, '+', '*' or the end, found \".\" (numbers have digits only)"
  pub reason-fraction_of_any_unit : reason_of (humantime_rules off) (codes "0.5y") (Syntax 1 unit_alone)
      ≡ codes "expected a unit, found \".\" (fractions are not read: write 4383h)"
  pub reason-zero : reason (codes "0") (Syntax 1 unit_alone) ≡ codes "expected a unit, found the end (write 0s)"
  pub reason-number : reason (codes "99999999999999999999m at column 1") (NumberTooLarge (Some 0))
      ≡ codes "number of 2^64 or more in \"99999999999999999999m at column 1\""
  pub reason-overflow : reason (codes "600y") (Overflow (Some 0)) ≡ codes "duration of over 584 years in \"600y\""
  pub reason-large_number : reason (codes "18446744074") (Overflow (Some 0))
      ≡ codes "duration of over 584 years in \"18446744074\" (write the number's unit, such as ns)"
  pub reason-mixed : reason (codes "1m 2s*3") (Mixed Plus Star) ≡ codes "sum and product mixed in \"1m 2s*3\""
  pub reason-empty : reason [] Empty ≡ codes "empty text"
  pub reason-no_text : reason [] (NotText false) ≡ codes "expect duration string, e.g: '1min+30'"

pub reasons : Reasons
unfolding chars digits encode
reasons = assumption

-- ---- Reports

-- the report of a text that is refused with all options off
abbrev report : List ℕ → Cause → List ℕ
report text cause = report_of (rules_of off) text cause

pub record Reports : Type 0 where
  pub report-unit : report (codes "5 mins") (Syntax 2 after_number)
      ≡ codes "5 mins\n  ^\nunknown unit \"mins\" at column 3 (did you mean \"min\"?)"
  pub report-end : report (codes "3+") (Syntax 2 number_alone)
      ≡ codes "3+\n  ^\nexpected a number at column 3, found the end"
  pub report-micro_sign : report (encode_utf8_all (codes "1µs -")) (Syntax 5 after_unit)
      ≡ encode_utf8_all (codes "1µs -\n    ^\nexpected a number, '+', '*' or the end at column 5, found \"-\"")
  pub report-two_columns : report (encode_utf8_all (codes "3天 -天")) (Syntax 5 after_unit)
      ≡ encode_utf8_all (codes "3天 -天\n    ^\nexpected a number, '+', '*' or the end at column 4, found \"-\"")
  pub report-eighty : report (codes "1h " ++ replicate 77 45) (Syntax 3 after_unit)
      ≡ (codes "1h " ++ replicate 77 45)
      ++ codes "\n   ^\nexpected a number, '+', '*' or the end at column 4, found \"-\""
  pub report-eighty_one : report (codes "1h " ++ replicate 78 45) (Syntax 3 after_unit)
      ≡ codes "expected a number, '+', '*' or the end at column 4, found \"-\""
  pub report-tab : report (codes "1h\t-") (Syntax 3 after_unit)
      ≡ codes "expected a number, '+', '*' or the end at column 4, found \"-\""
  pub report-quote : report (codes "1h -\"") (Syntax 3 after_unit)
      ≡ codes "expected a number, '+', '*' or the end at column 4, found \"-\""
  pub report-zero : report (codes "0") (Syntax 1 unit_alone)
      ≡ codes "0\n ^\nexpected a unit at column 2, found the end (write 0s)"
  pub report-overflow : report (codes "600y") (Overflow (Some 0)) ≡ codes "duration of over 584 years in \"600y\""

pub reports : Reports
unfolding chars digits encode
reports = assumption

pub wide : map is_wide (0xB5 ∷ 0x2E7F ∷ 0x2E80 ∷ 0x5206 ∷ []) ≡ false ∷ false ∷ true ∷ true ∷ []
wide = refl

-- ---- The run at the place of a fault

abbrev chinese : Options
chinese = record off { cn_unit = true }

pub record Runs : Type 0 where
  pub run-digits : run_at off (codes "3+-12a") (Syntax 3 number_alone) ≡ codes "12"
  pub run-letters : run_at off (codes "1h 30mints+") (Syntax 5 after_number) ≡ codes "mints"
  pub run-other : run_at off (codes "3--") (Syntax 1 after_number) ≡ codes "-"
  pub run-no_letter : run_at off (encode_utf8_all (codes "1分x")) (Syntax 1 after_number) ≡ codes "分"
  pub run-chinese : run_at chinese (encode_utf8_all (codes "1分x")) (Syntax 1 after_number) ≡ codes "分x"
  pub run-end : run_at off (codes "3+") (Syntax 2 number_alone) ≡ []
  pub run-no_syntax : run_at off (codes "600y") (Overflow (Some 0)) ≡ []

pub runs : Runs
unfolding chars encode
runs = assumption
