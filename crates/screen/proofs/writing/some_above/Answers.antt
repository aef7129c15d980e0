-- `some_above`: what the library says of `fold` is the definition's, digit by digit.
use Rattle.std.proofs.Common.{subst, ◌≡◌, refl, rules}
use Rattle.std.proofs.lemmas.Fn.{fold_over, slice_gives, fronts}
use lib.Dec.{ltb}
use Rattle.rules.specs.Words.{any}
use Rattle.screen.proofs.Ranges.{one_more}
use Rattle.screen.proofs.writing.some_above.Goals as goal

pub returns : goal.returns
returns c = subst (λ l. c.fold.result ≡ any (ltb c.args.most) l) c.iter.ensures.rest
    (fold_over fronts (λ y. y.now) _ (λ ys b. b ≡ any (ltb c.args.most) ys) _
    (λ ys a x b f' j k. let more = one_more c.args.most ys a x.now j in search rules)
    _ _ _ _ (slice_gives c.iter.result) refl c.fold.ensures.ran)
