-- The members of the outermost object, one after the other: where it ends, and where ours are.
-- Assumes nothing.
use Prim.Native.Nat.{ℕ, ◌+◌, ◌≤◌, ◌<◌}
use mathlib.Core.Bool.{Bool, cond, false, true}
use mathlib.Core.List.{List, [], ◌∷◌}
use mathlib.Core.Path.{◌≡◌, ap, refl, subst, sym, ◌∙◌}
use native.Mathlib.Omega.{arith}
use lib.Dec.{eqb}
use lib.ListN.{drop, length}
use Rattle.std.specs.Prelude.{None, Option, Some}
use Rattle.json_reader.proofs.Behind.{here, not_here}
use Rattle.json_reader.proofs.Bracketed.{Item, Walking, begins, empty, no_item, over}
use Rattle.json_reader.proofs.Nested.{member, no_name, object_value}
use Rattle.json_reader.proofs.Places.{in_text, text_behind}
use Rattle.json_reader.proofs.Read.{some_read}
use Rattle.json_reader.proofs.Walked.{another, end_found, ended, item_found, neither}
use Rattle.json_reader.specs.Places.{behind, next_from}
use Rattle.json_reader.specs.declared.octets.Next.{Next}
use Rattle.json_reader.specs.declared.values.After.{After}
use Rattle.rules.specs.Screen.{members_of}
use Rattle.rules_json.specs.Reader.{at, blanks, bracketed_said, member_said, member_size, name_size, past, scalar_said}
use Rattle.rules_json.specs.Reader.{string_size, string_units, value_said, value_size}
use Rattle.rules_json.specs.Tree.{Member, Tree, array, scalar}
use Rattle.screen.proofs.Finding.{AllFinding, Nowhere, all_done, all_none, all_on}
use Rattle.screen.proofs.Items.{said_begins, said_last, said_none, said_on, said_from}
use Rattle.screen.specs.Places.{Outermost, Places, with_member}
use Rattle.screen.specs.declared.members.OurPlaces.{OurPlaces}

abbrev member_at : List ℕ → Member (Tree 7)
member_at = member_said (value_said 7)

module _ (text : List ℕ) (start : ℕ) where
  -- past the outermost value
  abbrev whole : Option ℕ
  whole = past start (value_size 8 (drop start text))

  abbrev members : List (Member (Tree 7))
  members = members_of (value_said 8 (drop start text))

  -- the members that are left from a place on
  abbrev members_from : ℕ → List (Member (Tree 7))
  members_from place = said_from 0x7D (member_size (value_size 7)) member_at text place

  -- where there are no members
  memberless : (ours : OurPlaces) → Nowhere ours → members ≡ [] → Places text members ours
  memberless ours e n =
      all_done text members
      (subst (λ left. AllFinding text members left ours) n (all_none text members {ours = ours} e))

  no_members : (at text start ≡ 0x7B → ⊥) → members ≡ []
  unfolding value_said
  no_members h = rw (not_here text start 0x7B h) (either (eqb (at (drop start text) 0) 0x5B) _)
    where
      either : (t : Bool) (values : List (Tree 7))
          → members_of (cond t (array values) (scalar (scalar_said (drop start text)))) ≡ []
      either true values = refl
      either false values = refl

  pub no_object : {end : ℕ} → (at text start ≡ 0x7B → ⊥) → Some end ≡ whole → (ours : OurPlaces) → Nowhere ours
      → Outermost text start (Some record { past = end; ours = ours })
  no_object h p ours e = (p, memberless ours e (no_members h))

  module _ (is : at text start ≡ 0x7B) where
    object_said : members ≡ bracketed_said 0x7D (member_size (value_size 7)) member_at (drop start text)
    unfolding value_said
    object_said = rw (here text start 0x7B is)

    module _ (place found : ℕ) (p : place ≡ start + 1 + blanks (drop (start + 1) text)) (o : found ≡ at text place)
      where
        pub object_empty : found ≡ 0x7D → (ours : OurPlaces) → Nowhere ours
            → Outermost text start (Some record { past = place + 1; ours = ours })
        object_empty e ours q = (
          empty 0x7D (member_size (value_size 7)) text start place _ found p o
              (object_value text start 8 7 (omega arith, refl) is) e,
          memberless ours q
              (object_said ∙ said_none 0x7D (member_size (value_size 7)) member_at text start place found p o e),
        )

  -- Before each member: where the object ends, and what was found, by what is left from this place on.
  pub record Seeking (place : ℕ) (ours : OurPlaces) : Type 0 where
    pub walking : Walking 0x7D (member_size (value_size 7)) text whole place
    pub finding : AllFinding text members (members_from place) ours

  pub object_begins : at text start ≡ 0x7B → (place found : ℕ) → place ≡ start + 1 + blanks (drop (start + 1) text)
      → found ≡ at text place → (found ≡ 0x7D → ⊥) → (ours : OurPlaces) → Nowhere ours → Seeking place ours
  object_begins is place found p o h ours e =
      record {
        walking = begins 0x7D (member_size (value_size 7)) text start place _ found p o
            (object_value text start 8 7 (omega arith, refl) is) refl h;
        finding =
            subst (λ left. AllFinding text members left ours)
            (object_said is
            ∙ said_begins 0x7D (member_size (value_size 7)) member_at text start place found
            (in_text text start (λ z. omega arith)) p o refl h)
            (all_none text members {ours = ours} e);
      }

-- a name begins with its string
string_first : (s : List ℕ) → string_size s ≡ 0 → name_size s ≡ 0
unfolding name_size
string_first s e = rw e

pub string_there : (text : List ℕ) (place : ℕ) {inner : ℕ} → Some inner ≡ past place (name_size (drop place text))
    → string_size (drop place text) ≡ 0 → ⊥
string_there text place {inner} v e = (some_read place _ inner v).1 (string_first (drop place text) e)

module _ {text : List ℕ} {start place : ℕ} {ours : OurPlaces} (d : Seeking text start place ours) where
  pub members_over : length text ≤ place → None ≡ whole text start
  members_over = over d.walking

  pub nameless : None ≡ past place (name_size (drop place text)) → None ≡ whole text start
  nameless e = no_item d.walking (no_name (value_size 7) text place e)

  pub valueless : {inner : ℕ} → Some inner ≡ past place (name_size (drop place text))
      → None ≡ past inner (value_size 7 (drop inner text)) → None ≡ whole text start
  valueless {inner} v e = no_item d.walking (e ∙ member (value_size 7) text place inner v)

-- A member was read at a place, with what was found after it.
pub record MemberRead (text : List ℕ) (start place : ℕ) (ours next_ours : OurPlaces) (end : ℕ) : Type 0 where
  pub so_far : Seeking text start place ours
  pub inner : ℕ
  pub named : Some inner ≡ past place (name_size (drop place text))
  pub valued : Some end ≡ past inner (value_size 7 (drop inner text))
  pub found : next_ours ≡ with_member ours (string_units (drop place text)) inner

module _ {text : List ℕ} {start place : ℕ} {ours next_ours : OurPlaces} {end : ℕ}
    (r : MemberRead text start place ours next_ours end) where
  abbrev next : Next
  next = next_from text end

  walking : Walking 0x7D (member_size (value_size 7)) text (whole text start) place
  walking = r.so_far.walking

  read : Some end ≡ past place (member_size (value_size 7) (drop place text))
  read = r.valued ∙ member (value_size 7) text place r.inner r.named

  member_item : Item (member_size (value_size 7)) text place next.place next.octet
  member_item = record { end = end; read = read; skips = refl; octet = refl }

  pub broken : None ≡ behind text end 0x7D → None ≡ whole text start
  broken e = neither text end 0x7D walking read e

  found_on : {left : List (Member (Tree 7))} → members_from text start place ≡ member_at (drop place text) ∷ left
      → AllFinding text (members text start) left next_ours
  found_on e =
      all_on text (members text start) (subst (λ l. AllFinding text (members text start) l ours) e r.so_far.finding)
      r.inner
      (ap (value_said 7) (text_behind text place (name_size (drop place text))
      ∙ ap (λ k. drop k text) (sym (some_read place _ r.inner r.named).0)))
      (some_read r.inner _ end r.valued).1
      r.found

  pub object_ends : {past : ℕ} → Some (After.End past) ≡ behind text end 0x7D
      → Outermost text start (Some record { past = past; ours = next_ours })
  object_ends {past} e = (
    ended text end 0x7D walking read past e,
    all_done text (members text start) (found_on (said_last member_at walking member_item (end_found text end 0x7D past
        e).0)),
  )

  pub member_on : (after : Next) → Some (After.Item after) ≡ behind text end 0x7D
      → Seeking text start after.place next_ours × (place < after.place)
  member_on after e =
      let (other, comma, is) = item_found text end 0x7D after e in
      let (on, octet, more) = another text end 0x7D walking read after e in (
        record {
          walking = on;
          finding =
              found_on (said_on member_at walking member_item other comma after.place (ap (λ m. m.place) is));
        },
        more,
      )
