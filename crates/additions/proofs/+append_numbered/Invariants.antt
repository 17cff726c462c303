use Rattle.additions.proofs.+append_numbered.Given as goal

abbrev pub decreases-append_numbered : goal.decreases-append_numbered
decreases-append_numbered l = l.k
