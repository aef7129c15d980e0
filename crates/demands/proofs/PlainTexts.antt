-- Texts of RFC 8259 with no blanks, put together of the texts of their parts.
-- Assumes nothing.
use Prim.Native.Nat.{ℕ}
use mathlib.Core.Logic.{inl}
use mathlib.Core.Path.{◌≡◌, refl, sym, ap}
use mathlib.Core.Bool.{Bool, true, not, ◌&&◌}
use mathlib.Core.List.{List, [], ◌∷◌, ◌++◌, append_assoc, map}
use borrow.Author.Tests.{le-leb, leb-true, lt-leb, lt-ltb}
use native.Mathlib.Omega.{arith}
use lib.Dec.{leb}
use Rattle.chains.proofs.Chains.{both}
use Rattle.demands.specs.Screens.{All}
use Rattle.rules.specs.Screen.{listed}
use Rattle.rules_json.specs.Abnf.{Rule, octets, row, ◌then◌}
use Rattle.rules_json.specs.Grammar.{Array, Blanks, Char, MemberRule, NameSeparator, String}
use Rattle.rules_json.specs.Grammar.{Structural, ValueSeparator, joined, unescaped}
use Rattle.rules_json.specs.Tree.{Member}
use Rattle.rules_json.specs.Utf8.{character, utf16, utf8}

-- ---- each of a list

pub all_so : {B : Type 0} (P Q : B → Type 0) (ys : List B) → ((y : B) → P y → Q y) → All P ys → All Q ys
all_so P Q [] f h = tt
all_so P Q (y ∷ ys) f h = (f y h.0, all_so P Q ys f h.1)

pub all_map : {A B : Type 0} (P : A → Type 0) (f : B → A) (ys : List B) → All (λ y. P (f y)) ys → All P (map f ys)
all_map P f [] h = tt
all_map P f (y ∷ ys) h = (h.0, all_map P f ys h.1)

-- ---- one after the other

pub follows : (p q : Rule) (t u : List ℕ) → p t → q u → (p then q) (t ++ u)
follows p q t u x y = (t, u, refl, x, y)

pub no_blanks_lem : Blanks []
no_blanks_lem = (0, refl)

pub bare : (b : ℕ) → Structural b (b ∷ [])
bare b = ([], b ∷ [], refl, no_blanks_lem, (b ∷ [], [], refl, refl, no_blanks_lem))

-- ---- strings of ASCII with nothing to escape

abbrev plain : ℕ → Bool
plain c = unescaped c && leb c 0x7F

abbrev all_plain : List ℕ → Bool
all_plain [] = true
all_plain (c ∷ w) = plain c && all_plain w

abbrev singles : List ℕ → List (List ℕ)
singles w = map (λ c. c ∷ []) w

singles_joined : (w : List ℕ) → w ≡ joined (singles w)
singles_joined [] = refl
singles_joined (c ∷ w) = ap {B = List ℕ} (λ l. c ∷ l) (singles_joined w)

char : (c : ℕ) → plain c ≡ true → Char (c ∷ []) (c ∷ [])
unfolding utf8 utf16
char c e =
    let h = both (unescaped c) (leb c 0x7F) e in
    let few = leb-true c 0x7F h.1 in
    let is-character : character c ≡ true =
    λ i. le-leb c 0x10FFFF (omega arith) i && not (lt-leb 0xD800 c (omega arith) i && leb c 0xDFFF) in
    inl (c, h.0, is-character, rw (lt-ltb c 0x10000 (omega arith)), rw h.1)

chars : (w : List ℕ) → all_plain w ≡ true → row Char (singles w) w
chars [] e = refl
chars (c ∷ w) e =
    let h = both (plain c) (all_plain w) e in
    follows (Char (c ∷ [])) (row Char (singles w)) (c ∷ []) w (char c h.0) (chars w h.1)

pub plain_string : (w : List ℕ) → all_plain w ≡ true → String w (0x22 ∷ (w ++ (0x22 ∷ [])))
plain_string w e = (
  singles w,
  singles_joined w,
  (0x22 ∷ [], w ++ (0x22 ∷ []), refl, refl, (w, 0x22 ∷ [], refl, chars w e, refl)),
)

-- ---- members, objects and lists

module _ {A : Type 0} (Inner : A → Rule) where
  pub plain_member : (m : Member A) (t : List ℕ) → all_plain m.name ≡ true → Inner m.value t
      → MemberRule Inner m ((0x22 ∷ (m.name ++ (0x22 ∷ []))) ++ ((0x3A ∷ []) ++ t))
  plain_member m t e x =
      follows (String m.name) (NameSeparator then Inner m.value) _ _ (plain_string m.name e)
      (follows NameSeparator (Inner m.value) (0x3A ∷ []) t (bare 0x3A) x)

module _ {A B : Type 0} (Inner : A → Rule) (tree : B → A) (text : B → List ℕ) where
  -- it is said by its text
  abbrev Said : B → Type 0
  Said y = Inner (tree y) (text y)

  plain_row : (ys : List B) → All Said ys
      → row (λ x. ValueSeparator then Inner x) (map tree ys) (joined (map (λ t. octets "," ++ t) (map text ys)))
  plain_row [] h = refl
  plain_row (y ∷ ys) h =
      follows (ValueSeparator then Inner (tree y)) _ _ _
      (follows ValueSeparator (Inner (tree y)) (octets ",") (text y) (bare 0x2C) h.0)
      (plain_row ys h.1)

  pub plain_list : (ys : List B) → All Said ys → Array Inner (map tree ys) (listed (map text ys))
  plain_list [] h = (octets "[", octets "]", refl, bare 0x5B, ([], octets "]", refl, refl, bare 0x5D))
  plain_list (y ∷ ys) h =
      let more = joined (map (λ t. octets "," ++ t) (map text ys)) in (
        octets "[",
        text y ++ (more ++ octets "]"),
        refl,
        bare 0x5B,
        (
          text y ++ more,
          octets "]",
          sym (append_assoc (text y) more (octets "]")),
          follows (Inner (tree y)) _ (text y) more h.0 (plain_row ys h.1),
          bare 0x5D,
        ),
      )
