use Rattle.duration_str_js.proofs.printing.print.Goals as goal

pub returns-clause-none : goal.returns-clause-none
returns-clause-none c =
    rw (c.style-format.ensures, c.format_of.ensures, c.style_numbered.ensures, c.from_nanos-duration.ensures, c.rounding_numbered.ensures)
    at c.write_rounded.ensures.none
