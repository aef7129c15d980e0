-- The definitions that the rows of demands 2 and 3 compute with. Whoever says `unfolding computed` opens them all.
use Rattle.browser.specs.Browsing.{moved_to}
use Rattle.demands.specs.BrowseBack.{after_moves}
use Rattle.demands.specs.Quiet.{Quiet, after_all, clock_gone}
use Rattle.rules.proofs.Computed.{computed as of_the_rules}

of_quiet : Unit {0}
unfolding after_all Quiet clock_gone
of_quiet = tt

of_browsing : Unit {0}
unfolding after_moves moved_to
of_browsing = tt

unfoldable pub computed : Unit {0}
unfolding of_the_rules of_quiet of_browsing
computed = tt
