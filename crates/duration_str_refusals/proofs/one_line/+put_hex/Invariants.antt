use Rattle.duration_str_refusals.proofs.one_line.+put_hex.Given as goal

abbrev pub decreases-put_hex : goal.decreases-put_hex
decreases-put_hex l = l.n
