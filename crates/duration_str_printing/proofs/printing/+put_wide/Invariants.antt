use Rattle.duration_str_printing.proofs.printing.+put_wide.Given as goal

abbrev pub decreases-put_wide : goal.decreases-put_wide
decreases-put_wide l = l.n
