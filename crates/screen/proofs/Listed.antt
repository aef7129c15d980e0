-- A list in a text that has been taken, value by value: what it gives where each of its values gives something.
-- Assumes nothing.
use Prim.Native.Nat.{ℕ, suc, ◌+◌, ◌≤◌}
use mathlib.Core.Bool.{Bool, cond, false, true}
use mathlib.Core.List.{List, [], ◌∷◌, ◌++◌}
use mathlib.Core.Option.{Option, none, some}
use mathlib.Core.Path.{◌≡◌, ap, refl, sym, ◌∙◌}
use native.Mathlib.Numerals.{sub-one}
use native.Mathlib.Omega.{arith}
use borrow.Author.Tests.{eqb-false, eqb-true}
use lib.Dec.{eqb}
use lib.ListN.{drop, length}
use Rattle.json_reader.proofs.Behind.{here, not_here}
use Rattle.json_reader.proofs.Bracketed.{Item, Walking, begins, breaks, closes, goes_on_lem, no_item}
use Rattle.json_reader.proofs.Cases.{by_test}
use Rattle.json_reader.proofs.Nested.{list_value}
use Rattle.json_reader.proofs.Places.{in_text}
use Rattle.json_reader.proofs.Read.{none_read, past_none, some_read}
use Rattle.rules_json.specs.Reader.{past}
use Rattle.std.specs.Prelude.{None}
use Rattle.rules.specs.Screen.{list_of, provided}
use Rattle.rules_json.specs.Reader.{at, blanks, bracketed_said, bracketed_size, scalar_said, value_said, value_size}
use Rattle.rules_json.specs.Tree.{Member, Tree, array, object, scalar}
use Rattle.screen.proofs.Gathering.{gathers_begins, gathers_last, gathers_none, gathers_on, gathers_too_many}
use Rattle.screen.proofs.Gathering.{outcome}
use Rattle.screen.proofs.Items.{said_begins, said_first, said_last, said_none, said_on, said_some, said_from}

module _ {B : Type 0} (how_many : ℕ → Bool) (deep : ℕ) (f : Tree deep → Option B) (text : List ℕ) (start : ℕ) where
  -- what the value gives
  abbrev pub given : Option (List B)
  given = list_of how_many f (value_said (suc deep) (drop start text))

  -- what its values from a place on say
  abbrev pub values_from : ℕ → List (Tree deep)
  values_from place = said_from 0x5D (value_size deep) (value_said deep) text place

  list_said : at text start ≡ 0x5B
      → value_said (suc deep) (drop start text)
      ≡ array (bracketed_said 0x5D (value_size deep) (value_said deep) (drop start text))
  unfolding value_said
  list_said e = rw (not_here text start 0x7B (λ h. omega arith), here text start 0x5B e)

  pub no_list : (at text start ≡ 0x5B → ⊥) → given ≡ none
  unfolding value_said
  no_list h = rw (not_here text start 0x5B h) (either (eqb (at (drop start text) 0) 0x7B) _)
    where
      either : (t : Bool) (members : List (Member (Tree deep)))
          → list_of how_many f (cond t (object members) (scalar (scalar_said (drop start text)))) ≡ none
      either true members = refl
      either false members = refl

  -- What was gathered, and what is left from a place on, give what the whole gives.
  pub record Listed (had : List B) (place : ℕ) : Type 0 where
    pub taken : value_size (suc deep) (drop start text) ≡ 0 → ⊥
    pub walking : Walking 0x5D (value_size deep) text (past start (value_size (suc deep) (drop start text))) place
    pub gives : outcome how_many f had (values_from place) ≡ given

  module _ (is : at text start ≡ 0x5B) (place found : ℕ) (p : place ≡ start + 1 + blanks (drop (start + 1) text))
      (o : found ≡ at text place) where
    list_size : value_size (suc deep) (drop start text) ≡ bracketed_size 0x5D (value_size deep) (drop start text)
    list_size =
        list_value text start (suc deep) deep (omega arith, sym (sub-one (suc deep))) is

    pub list_empty : found ≡ 0x5D → how_many 0 ≡ false → given ≡ none
    list_empty e n =
        ap (list_of how_many f) (list_said is
        ∙ ap array (said_none 0x5D (value_size deep) (value_said deep) text start place found p o e))
        ∙ ap (λ t. provided t []) n

    pub list_begins : (found ≡ 0x5D → ⊥) → (value_size (suc deep) (drop start text) ≡ 0 → ⊥) → Listed [] place
    list_begins h t =
        record {
          taken = t;
          walking = begins 0x5D (value_size deep) text start place _ found p o list_size refl h;
          gives =
              gathers_begins how_many f (values_from place)
              ∙ ap (list_of how_many f) (sym (list_said is
              ∙ ap array (said_begins 0x5D (value_size deep) (value_said deep) text start place found
              (in_text text start (λ z. omega arith)) p o refl h)));
        }

module _ {B : Type 0} {how_many : ℕ → Bool} {deep : ℕ} {f : Tree deep → Option B} {text : List ℕ} {start : ℕ}
    {had : List B} {place : ℕ}
    (l : Listed how_many deep f text start had place) where
  -- the whole is there
  whole_there : None ≡ past start (value_size (suc deep) (drop start text)) → ⊥
  whole_there e = l.taken (none_read start (value_size (suc deep) (drop start text)) e)

  pub value_there : value_size deep (drop place text) ≡ 0 → ⊥
  value_there e = whole_there (no_item l.walking (sym (past_none place e)))

  pub gives_none : f (value_said deep (drop place text)) ≡ none → given how_many deep f text start ≡ none
  gives_none e =
      let (rest, first) = said_first 0x5D (value_size deep) (value_said deep) text place in
      sym l.gives ∙ ap (outcome how_many f had) first ∙ gathers_none how_many f had _ rest e

  pub gives_too_many : ((n : ℕ) → 1 ≤ n → how_many (length had + n) ≡ false) → given how_many deep f text start ≡ none
  gives_too_many h = sym l.gives
      ∙ gathers_too_many how_many f had _ (h _ (said_some 0x5D (value_size deep) (value_said deep) text place))

  -- behind a value a comma or the bracket stands
  pub closed : {next found : ℕ} → Item (value_size deep) text place next found → (found ≡ 0x2C → ⊥) → found ≡ 0x5D
  closed {found = found} i h = by_test (eqb found 0x5D) (eqb-true found 0x5D)
      (λ t. absurd (whole_there (breaks l.walking i (eqb-false found 0x5D t) h)))

  module _ {y : B} (e : f (value_said deep (drop place text)) ≡ some y) {next found : ℕ}
      (i : Item (value_size deep) text place next found) where
    pub list_on : found ≡ 0x2C → (after : ℕ) → after ≡ next + 1 + blanks (drop (next + 1) text)
        → Listed how_many deep f text start (had ++ y ∷ []) after
    list_on c after q =
        record {
          taken = l.taken;
          walking = goes_on_lem l.walking i (λ z. omega arith) after q c;
          gives =
              sym (gathers_on how_many f had _ _ y e)
              ∙ ap (outcome how_many f had) (sym (said_on (value_said deep) l.walking i (λ z. omega arith) c after q))
              ∙ l.gives;
        }

    pub list_ends : (found ≡ 0x2C → ⊥) → next + 1 ≡ start + value_size (suc deep) (drop start text)
    list_ends h = (some_read start _ (next + 1) (closes l.walking i (closed i h))).0

    pub gives_all : (found ≡ 0x2C → ⊥)
        → given how_many deep f text start ≡ provided (how_many (length had + 1)) (had ++ y ∷ [])
    gives_all h =
        sym l.gives
        ∙ ap (outcome how_many f had) (said_last (value_said deep) l.walking i (closed i h))
        ∙ gathers_last how_many f had _ y e
