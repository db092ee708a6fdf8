use Rattle.duration_str_c.proofs.duration_str_parse.Goals as goal

pub returns-in-Err-clause-accepts : goal.returns-in-Err-clause-accepts
returns-in-Err-clause-accepts c utf8 value read =
    let h = c.parse_nanos_specialized.ensures.accepts value (rw (c.of.ensures, c.off.ensures, c.in-Some.ensures.text.0) read) in cc
