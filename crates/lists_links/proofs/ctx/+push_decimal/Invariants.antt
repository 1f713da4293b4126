use Rattle.lists_links.proofs.ctx.+push_decimal.Given as goal

-- the number falls
abbrev pub decreases-push_decimal : goal.decreases-push_decimal
decreases-push_decimal l = l.n
