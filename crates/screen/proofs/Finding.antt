-- The first member of a name: what was found, and what is left.
-- Assumes nothing.
use Prim.Native.Nat.{ℕ}
use mathlib.Core.Bool.{Bool, cond, false, true}
use mathlib.Core.List.{List, [], ◌∷◌}
use mathlib.Core.Option as Math
use mathlib.Core.Option.{none, some}
use mathlib.Core.Path.{◌≡◌, ap, refl, subst, sym, ◌∙◌}
use lib.ListN.{drop}
use Rattle.std.specs.Bool.{then_some}
use Rattle.std.specs.Prelude.{None, Option, Some}
use Rattle.rules.specs.Screen.{aspect_name, first, same, station_name, tracks_name}
use Rattle.rules_json.specs.Reader.{value_said, value_size}
use Rattle.rules_json.specs.Tree.{Member, Tree}
use Rattle.screen.specs.Places.{IsPlace, Place, Places, first_of, with_member}
use Rattle.screen.specs.declared.members.OurPlaces.{OurPlaces}

-- no place of ours
abbrev pub Nowhere : OurPlaces → Type 0
Nowhere ours = (ours.station ≡ None) × ((ours.aspect ≡ None) × (ours.tracks ≡ None))

-- ---- one name

module _ (text : List ℕ) (whole : List (Member (Tree 7))) where
  -- what was found, and where there was none the first of what is left
  abbrev found_or : Option ℕ → Math.Option (Tree 7) → Math.Option (Tree 7)
  found_or None left = left
  found_or (Some place) left = some (value_said 7 (drop place text))

  -- is the first of the whole
  pub record Finding (name : List ℕ) (left : List (Member (Tree 7))) (was : Option ℕ) : Type 0 where
    pub is_first : found_or was (first name left) ≡ first name whole
    pub there : IsPlace text was

  finding_none : (name : List ℕ) → Finding name whole None
  finding_none name = record { is_first = refl; there = tt }

  finding_done : {name : List ℕ} (was : Option ℕ) → Finding name [] was → Place text whole name was
  finding_done None d = record { found = d.is_first; there = d.there }
  finding_done (Some place) d = record { found = d.is_first; there = d.there }

  module _ {name : List ℕ} {m : Member (Tree 7)} {left : List (Member (Tree 7))} (value : ℕ)
      (said : m.value ≡ value_said 7 (drop value text)) (some-value : value_size 7 (drop value text) ≡ 0 → ⊥) where
    finding_on : (was : Option ℕ) → Finding name (m ∷ left) was → Finding name left (first_of was m.name name value)
    finding_on (Some place) d = record { is_first = d.is_first; there = d.there }
    finding_on None d = by_name (same m.name name) d.is_first
      where
        by_name : (t : Bool) → cond t (some m.value) (first name left) ≡ first name whole
            → Finding name left (then_some t value)
        by_name true e = record { is_first = ap some (sym said) ∙ e; there = some-value }
        by_name false e = record { is_first = e; there = tt }

  -- ---- our three names

  pub record AllFinding (left : List (Member (Tree 7))) (ours : OurPlaces) : Type 0 where
    pub station : Finding station_name left ours.station
    pub aspect : Finding aspect_name left ours.aspect
    pub tracks : Finding tracks_name left ours.tracks

  pub all_none : {ours : OurPlaces} → Nowhere ours → AllFinding whole ours
  all_none n =
      record {
        station = subst (Finding station_name whole) (sym n.0) (finding_none station_name);
        aspect = subst (Finding aspect_name whole) (sym n.1.0) (finding_none aspect_name);
        tracks = subst (Finding tracks_name whole) (sym n.1.1) (finding_none tracks_name);
      }

  pub all_done : {ours : OurPlaces} → AllFinding [] ours → Places text whole ours
  all_done d =
      record {
        station = finding_done _ d.station;
        aspect = finding_done _ d.aspect;
        tracks = finding_done _ d.tracks;
      }

  pub all_on : {m : Member (Tree 7)} {left : List (Member (Tree 7))} {ours next : OurPlaces}
      → AllFinding (m ∷ left) ours
      → (value : ℕ) → m.value ≡ value_said 7 (drop value text) → (value_size 7 (drop value text) ≡ 0 → ⊥)
      → next ≡ with_member ours m.name value → AllFinding left next
  unfolding with_member
  all_on {left = left} d value said v e =
      subst (AllFinding left) (sym e)
      record {
        station = finding_on value said v _ d.station;
        aspect = finding_on value said v _ d.aspect;
        tracks = finding_on value said v _ d.tracks;
      }
