-- Tests of bytes that come first. (Not for belief: what pieces are is told by rules_plan.)
use Rattle.std.specs.Prelude.{ℕ, Bool, not}
use Rattle.rules_plan.specs.Words.{blank, hash, line_feed}

abbrev pub not_line_feed : ℕ → Bool
not_line_feed b = not (line_feed b)

abbrev pub not_hash : ℕ → Bool
not_hash b = not (hash b)

abbrev pub not_blank : ℕ → Bool
not_blank b = not (blank b)
