-- A track's signs, from what is seen of each of its five islands.
-- Assumes nothing.
use mathlib.Core.Path.{◌≡◌, refl, sym, ◌∙◌}
use mathlib.Core.Bool.{Bool, true, false, not, ◌&&◌, ◌||◌, or-false, or-true}
use lib.ListN.{length}
use Rattle.islands.proofs.Islands.{is_five}
use Rattle.islands.specs.Signs.{seen_of, seen_together, signs_of}
use Rattle.islands.specs.declared.Signs.{Signs}
use Rattle.islands.specs.declared.shown.Seen.{Seen}
use Rattle.rules.specs.Aspect.{fresh_advance, fresh_approaching, fresh_near, held, present, some_fresh, some_held}
use Rattle.rules.specs.Station.{Zone, advance, any_island, approaching, crossing, going_away}
use Rattle.rules.specs.Station.{is_advance, is_warning, island_at, warning}
use Rattle.rules.specs.declared.Island.{Island}
use Rattle.rules.specs.declared.Settings.{Settings}
use Rattle.rules.specs.declared.Track.{Track}

-- A track's islands are seen in another order than they are numbered in: the near ones first, then those ahead.
in_order : (a b c d e : Bool) → ((b || d) || c) || (a || e) ≡ a || (b || (c || (d || (e || false))))
in_order true b c d e = or-true ((b || d) || c)
in_order false true c d e = refl
in_order false false c true e = sym (or-true c)
in_order false false true false e = refl
in_order false false false false e = sym (or-false e)

any_seen : (p : Zone → Island → Bool) (t : Track) → length t.islands ≡ 5
    → ((p warning (island_at t 1) || p warning (island_at t 3)) || p crossing (island_at t 2))
    || (p advance (island_at t 0) || p advance (island_at t 4)) ≡ any_island p t
any_seen p t e =
    rw (is_five t e)
    (in_order (p advance (island_at t 0)) (p warning (island_at t 1)) (p crossing (island_at t 2))
    (p warning (island_at t 3)) (p advance (island_at t 4)))

-- No sixth island adds to them.
pub signs_of_seen : (c : Settings) (t : Track) → length t.islands ≡ 5
    → (near ahead all : Seen)
    → near ≡ seen_together (seen_together (seen_of c.t2 true (island_at t 1)) (seen_of c.t2 true (island_at t 3)))
    (seen_of c.t3 false (island_at t 2))
    → ahead ≡ seen_together (seen_of c.t1 false (island_at t 0)) (seen_of c.t1 false (island_at t 4))
    → all ≡ seen_together near ahead
    → ◌≡◌ {A = Signs}
    record {
      fresh = all.fresh;
      present = all.present;
      near = near.fresh;
      ahead = ahead.fresh;
      held = all.held;
    }
    (signs_of c t)
unfolding signs_of some_fresh present fresh_near fresh_advance some_held
signs_of_seen c t five near ahead all e f g =
    rw (g, e, f)
    (λ k.
    record {
      fresh = any_seen (fresh_approaching c) t five k;
      present = any_seen (λ z i. approaching i || held c z i || is_warning z && going_away i) t five k;
      near = (sym (or-false _) ∙ any_seen (λ z i. not (is_advance z) && fresh_approaching c z i) t five) k;
      ahead = any_seen (λ z i. is_advance z && fresh_approaching c z i) t five k;
      held = any_seen (held c) t five k;
    })
