-- The rules allow blanks before and behind whatever stands in brackets; the reader takes those inside only. So a text
-- of a rule is a part that the reader takes, with blanks on both sides, and each such part is a text of the rule.
-- Assumes nothing.
use Prim.Native.Nat.{ℕ}
use mathlib.Core.Bool.{false}
use mathlib.Core.List.{List, [], ◌∷◌, ◌++◌}
use mathlib.Core.Logic.{inl, inr}
use mathlib.Core.Path.{◌≡◌, refl, sym, ap, ap₂, subst}
use Rattle.rules_json.specs.Abnf.{Rule, row, ◌then◌}
use Rattle.rules_json.specs.Grammar.{MemberRule, NameSeparator, String, Structural, ValueSeparator, blank}
use Rattle.rules_json.specs.Grammar.{Items as ItemsRule}
use Rattle.rules_json.specs.Reader.{at}
use Rattle.rules_json.specs.Tree.{Member}
use Rattle.json_exact.proofs.Bracketed.{Bracketed, Inner, Items}
use Rattle.json_exact.proofs.Blanks.{Separated, Ws, separator_of, structural, structural_of}
use Rattle.json_exact.proofs.Leading.{run_on, stop}
use Rattle.json_exact.proofs.Members.{MemberPart, Named}
use Rattle.json_exact.proofs.Splits.{Part, Spans, cut, join, spell, spelled}
use Rattle.json_exact.proofs.Strings.{string_complete}
use Rattle.json_exact.proofs.Steps.{end, turn}

-- a part with blanks on both sides
pub record Padded (C : Part) (s u : List ℕ) : Type 0 where
  pub from : List ℕ
  pub to : List ℕ
  pub before : Ws s from
  pub part : C from to
  pub after : Ws to u

-- the parts of a rule, without the blanks outside
pub record Cores {A : Type 0} (P : A → Rule) (C : A → Part) : Type 0 where
  pub inward : {x : A} {s u : List ℕ} → Spans (P x) s u → Padded (C x) s u
  pub outward : {x : A} {s u : List ℕ} → C x s u → Spans (P x) s u
  pub unblank : {x : A} {s u : List ℕ} → C x s u → blank (at s 0) ≡ false

-- ---- members

module _ {A : Type 0} {P : A → Rule} {C : A → Part} (cores : Cores P C) where
  -- the separator in front of an item, and the blanks in front of it
  separator_inward : (b : ℕ) {x : A} {s k m u : List ℕ} → Ws s k → Spans (Structural b) k m → (v : Padded (C x) m u)
      → Separated b s v.from
  separator_inward b ws w v =
      let (next, before, after) = structural b w in
      let open_end = cores.unblank v.part in
      record { next = next; before = run_on ws before; after = run_on after v.before; open_end = open_end }

  member_inward : {m : Member A} {s u : List ℕ} → Spans (MemberRule P m) s u → Padded (MemberPart C m) s u
  member_inward {m} {s} w =
      let (a, name, q) = cut (String m.name) (NameSeparator then P m.value) w in
      let (b, colon, value) = cut NameSeparator (P m.value) q in
      let v = cores.inward value in
      let separator = separator_inward 0x3A stop colon v in
      let named : Named m.name s v.from = record { rest = a; string = name; separator = separator } in
      let part : MemberPart C m s v.to = record { first = v.from; named = named; inner = v.part } in
      record { from = s; to = v.to; before = stop; part = part; after = v.after }

  member_outward : {m : Member A} {s u : List ℕ} → MemberPart C m s u → Spans (MemberRule P m) s u
  member_outward w = join w.named.string (join (separator_of w.named.separator) (cores.outward w.inner))

  pub member_cores : Cores (MemberRule P) (MemberPart C)
  member_cores =
      record {
        inward = member_inward;
        outward = member_outward;
        unblank = λ w. ap blank (string_complete w.named.string).head;
      }

-- ---- items

module _ {A : Type 0} {P : A → Rule} {C : A → Part} (cores : Cores P C) (close : ℕ) where
  abbrev Others : List A → Rule
  Others = row (λ y. ValueSeparator then P y)

  -- an item with blanks, others behind it and the closing bracket
  items_inward : {x : A} (xs : List A) {s k m l u : List ℕ} → C x s k → Ws k m → Spans (Others xs) m l
      → Ws l (close ∷ u) → Items C close (x ∷ xs) s u
  items_inward {x} [] {k} {u} item ws others closed =
      let same = subst (λ (l : List ℕ). Ws l (close ∷ u)) (sym (spelled others)) closed in
      end (record { value = x; is = refl; rest = k; item = item; blanks = run_on ws same })
  items_inward {x} (y ∷ ys) {k} item ws others closed =
      let (d, separated, rest) = cut (ValueSeparator then P y) (Others ys) others in
      let (e, comma, value) = cut ValueSeparator (P y) separated in
      let v = cores.inward value in
      let separator = separator_inward cores 0x2C ws comma v in
      turn (record { value = x; is = refl; rest = k; item = item; separator = separator })
      (items_inward {x = y} ys v.part v.after rest closed)

  record Listed (xs : List A) (s u : List ℕ) : Type 0 where
    first : A
    others : List A
    is : xs ≡ first ∷ others
    rest : List ℕ
    spans : Spans (P first then Others others) s rest
    closed : Ws rest (close ∷ u)

  items_outward : {xs : List A} {s u : List ℕ} → Items C close xs s u → Listed xs s u
  items_outward (end f) =
      let spans = join (cores.outward f.item) (spell [] refl) in
      record { first = f.value; others = []; is = f.is; rest = f.rest; spans = spans; closed = f.blanks }
  items_outward (turn {xs} n r) =
      let w = items_outward r in
      let (m, item, others) = cut (P w.first) (Others w.others) w.spans in
      let is = ap₂ (λ (p q : List A). p ++ q) n.is w.is in
      let spans = join (cores.outward n.item) (join (join (separator_of n.separator) item) others) in
      record {
        first = n.value;
        others = w.first ∷ w.others;
        is = is;
        rest = w.rest;
        spans = spans;
        closed = w.closed;
      }

  -- ---- brackets

  abbrev pub BracketRule : ℕ → List A → Rule
  BracketRule first_octet xs = Structural first_octet then ItemsRule P xs then Structural close

  module _ (b : ℕ) where
    inner_inward : (xs : List A) {s l u : List ℕ} → Spans (ItemsRule P xs) s l → Ws l (close ∷ u)
        → (k : List ℕ) × Ws s k × Inner C close xs k u
    inner_inward [] {s} {l} {u} w closed =
        let ws = subst (λ (k : List ℕ). Ws k (close ∷ u)) (sym (spelled w)) closed in
        (close ∷ u, ws, inl (refl, refl))
    inner_inward (x ∷ xs) w closed =
        let (m, item, others) = cut (P x) (Others xs) w in
        let v = cores.inward item in
        (v.from, v.before, inr (items_inward xs v.part v.after others closed))

    pub bracketed_inward : {xs : List A} {s u : List ℕ} → Spans (BracketRule b xs) s u
        → Padded (Bracketed C close b xs) s u
    bracketed_inward {xs} w =
        let (a, opened, q) = cut (Structural b) (ItemsRule P xs then Structural close) w in
        let (k, items, closing) = cut (ItemsRule P xs) (Structural close) q in
        let (m, before, inside) = structural b opened in
        let (e, closed, after) = structural close closing in
        let (first, blanks, inner) = inner_inward xs items closed in
        record {
          from = b ∷ m;
          to = e;
          before = before;
          after = after;
          part = record { inside = m; opened = refl; first = first; blanks = run_on inside blanks; inner = inner };
        }

    pub bracketed_outward : {xs : List A} {s u : List ℕ} → Bracketed C close b xs s u → Spans (BracketRule b xs) s u
    bracketed_outward {xs} {s} {u} w =
        let ws = subst (λ (l : List ℕ). Ws l (b ∷ w.inside)) (sym w.opened) stop in
        join (structural_of b ws w.blanks) (go w.inner)
      where
        go : Inner C close xs w.first u → Spans (ItemsRule P xs then Structural close) w.first u
        go (inl (empty, closed)) =
            join (subst (λ (ys : List A). Spans (ItemsRule P ys) w.first w.first) (sym empty) (spell [] refl))
            (structural_of close (subst (λ (l : List ℕ). Ws l (close ∷ u)) (sym closed) stop) stop)
        go (inr r) =
            let i = items_outward r in
            join (subst (λ (ys : List A). Spans (ItemsRule P ys) w.first i.rest) (sym i.is) i.spans)
            (structural_of close i.closed stop)
