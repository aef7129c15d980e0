-- Document 02, request 1: what is read of a text that the desk sends.
-- Assumes nothing.
use Prim.Native.Nat.{ℕ}
use mathlib.Core.Logic.{◌↔◌}
use mathlib.Core.Path.{◌≡◌, refl, sym, ap, subst, ◌∙◌}
use mathlib.Core.Bool.{Bool, true, false, true≢false, false≢true, cond, not, ◌&&◌, ◌||◌}
use mathlib.Core.List.{List, [], ◌∷◌, ◌++◌}
use mathlib.Core.Option.{Option, some}
use borrow.Author.Tests.{eqb-true, le-leb, leb-true}
use lib.Dec.{eqb, leb}
use lib.ListN.{length}
use Rattle.chains.proofs.Chains.{both, where_refused}
use Rattle.demands.specs.Screens.{Members, Readable, Says, is_ours, named, only_ours}
use Rattle.json_exact.proofs.Text.{complete, sound}
use Rattle.rules.specs.Screen.{and_then, aspect_in, aspect_name, first, is_taken, is_there, members_of, message_in}
use Rattle.rules.specs.Screen.{no_message, number_of, or_else, ours, padded, reading_answer, received, same}
use Rattle.rules.specs.Screen.{station_in, station_name, tracks_in, tracks_name, tracks_of}
use Rattle.rules.specs.Words.{◌if◌then◌}
use Rattle.rules.specs.declared.Received.{Received}
use Rattle.rules_json.specs.Grammar.{joined}
use Rattle.rules_json.specs.Reader.{is_text, text_said}
use Rattle.rules_json.specs.Tree.{Member, Tree, object}

-- ---- what is received of members

-- all of ours are there
abbrev pub whole : Members → Bool
whole members = is_there (station_in members) && is_there (aspect_in members) && is_there (tracks_in members)

-- what is received of a text that is taken, from the members in its outermost object
abbrev answer_to : Members → ℕ
answer_to members = 16 if not (whole members) then 0

abbrev received_from : ℕ → Members → Received
received_from answer members = record { answer = answer; message = cond (eqb answer 0) (message_in members) no_message }

-- and of ours alone
heard : Option (Tree 7) → Option (Tree 7) → Option (Tree 7) → Received
heard station aspect tracks =
    let a = and_then station (number_of 65535) in
    let b = and_then aspect (number_of 5) in
    let c = and_then tracks tracks_of in
    let answer = 16 if not (is_there a && is_there b && is_there c) then 0 in
    record {
      answer = answer;
      message = cond (eqb answer 0)
          record {
            station = or_else 0 a;
            aspect = or_else 0 b;
            tracks = length (or_else [] c);
            digits = padded (joined (or_else [] c));
          } no_message;
    }

same_received : (x y : Members) → first station_name x ≡ first station_name y →
    first aspect_name x ≡ first aspect_name y
    → first tracks_name x ≡ first tracks_name y
    → received_from (answer_to x) x ≡ received_from (answer_to y) y
unfolding heard
same_received x y a b c = λ i. heard (a i) (b i) (c i)

-- ---- the first of a name

same_so : (x y : List ℕ) → same x y ≡ true → x ≡ y
same_so [] [] e = refl
same_so [] (y ∷ ys) e = absurd (false≢true e)
same_so (x ∷ xs) [] e = absurd (false≢true e)
same_so (x ∷ xs) (y ∷ ys) e = let h = both (eqb x y) (same xs ys) e in
    λ i. eqb-true x y h.0 i ∷ same_so xs ys h.1 i

-- is among ours, if the name is
first_of_ours : (name : List ℕ) (members : Members) → is_ours name ≡ true
    → first name members ≡ first name (only_ours members)
first_of_ours name [] h = refl
first_of_ours name (m ∷ ms) h = go (is_ours m.name) refl (first_of_ours name ms h)
  where
    other : is_ours m.name ≡ false → (t : Bool) → same m.name name ≡ t
        → cond t (some m.value) (first name ms) ≡ first name ms
    other e true q = absurd (true≢false (sym h ∙ ap is_ours (sym (same_so m.name name q)) ∙ e))
    other e false q = refl

    go : (t : Bool) → is_ours m.name ≡ t → first name ms ≡ first name (only_ours ms)
        → first name (m ∷ ms) ≡ first name (cond t (m ∷ only_ours ms) (only_ours ms))
    go true e later = ap (cond (same m.name name) (some m.value)) later
    go false e later = other e (same m.name name) refl ∙ later

-- and stays where it is
skipped : (name : List ℕ) (before after : Members) (m : Member (Tree 7)) → same m.name name ≡ false
    → first name (before ++ (m ∷ after)) ≡ first name (before ++ after)
skipped name [] after m e = ap (λ (t : Bool). cond t (some m.value) (first name after)) e
skipped name (k ∷ before) after m e = ap (cond (same k.name name) (some k.value)) (skipped name before after m e)

found : (name : List ℕ) (before after : Members) → named name before ≡ true
    → first name (before ++ after) ≡ first name before
found name [] after h = absurd (false≢true h)
found name (k ∷ before) after h = go (same k.name name) h (found name before after)
  where
    go : (t : Bool) → t || named name before ≡ true
        → (named name before ≡ true → first name (before ++ after) ≡ first name before)
        → cond t (some k.value) (first name (before ++ after)) ≡ cond t (some k.value) (first name before)
    go true e later = refl
    go false e later = later e

first_stays : (name : List ℕ) (before after : Members) (m : Member (Tree 7)) → named m.name before ≡ true
    → first name (before ++ after) ≡ first name (before ++ (m ∷ after))
first_stays name before after m h = go (same m.name name) refl
  where
    go : (t : Bool) → same m.name name ≡ t → first name (before ++ after) ≡ first name (before ++ (m ∷ after))
    go true e =
        let there : named name before ≡ true =
        subst (λ (n : List ℕ). named n before ≡ true) (same_so m.name name e) h in
        found name before after there ∙ sym (found name before (m ∷ after) there)
    go false e = sym (skipped name before after m e)

-- ---- what is read

pub takes : (s : List ℕ) → is_taken s ≡ true ↔ Readable s
unfolding is_taken
takes s = (
  λ e. let h = both (leb (length s) 4096) (is_text 8 s) e in
      (text_said 8 s, (sound 8 s h.1, leb-true (length s) 4096 h.0)),
  λ (x, t). λ i. le-leb (length s) 4096 t.1 i && (complete 8 x s t.0).0 i,
)

pub said : (s : List ℕ) (x : Tree 8) → Says x s → text_said 8 s ≡ x
said s x t = (complete 8 x s t.0).1

pub received_of : (s : List ℕ) (x : Tree 8) → Says x s
    → received s ≡ received_from (answer_to (members_of x)) (members_of x)
unfolding received reading_answer ◌if◌then◌
received_of s x t =
    let taken = (takes s).1 (x, t) in
    let same = ap (members_of {A = Tree 7}) (said s x t) in
    λ i. received_from (15 if not (taken i) then answer_to (same i)) (same i)

-- texts whose first of each of ours is the same
pub alike : (s t : List ℕ) (x y : Tree 8) → Says x s → Says y t
    → first station_name (members_of x) ≡ first station_name (members_of y)
    → first aspect_name (members_of x) ≡ first aspect_name (members_of y)
    → first tracks_name (members_of x) ≡ first tracks_name (members_of y)
    → received s ≡ received t
alike s t x y u v a b c = received_of s x u ∙ same_received (members_of x) (members_of y) a b c
    ∙ sym (received_of t y v)

pub skips : (s t : List ℕ) (x y : Tree 8) → Says x s → Says y t → only_ours (members_of x) ≡ only_ours (members_of y)
    → received s ≡ received t
skips s t x y u v e = alike s t x y u v (of station_name refl) (of aspect_name refl) (of tracks_name refl)
  where
    of : (name : List ℕ) → is_ours name ≡ true → first name (members_of x) ≡ first name (members_of y)
    of name h = first_of_ours name (members_of x) h ∙ ap (first name) e ∙ sym (first_of_ours name (members_of y) h)

pub given : (s : List ℕ) (x : Tree 8) → Says x s → whole (members_of x) ≡ true
    → received s ≡ record { answer = 0; message = message_in (members_of x) }
unfolding ◌if◌then◌
given s x t h = received_of s x t ∙ λ i. received_from (16 if not (h i) then 0) (members_of x)

pub refused : (s : List ℕ) → ((received s).answer ≡ 0 → ⊥) → (received s).message ≡ no_message
unfolding received
refused s h = where_refused (reading_answer s) (message_in (ours s)) no_message h

pub blanks : (s t : List ℕ) (x : Tree 8) → Says x s → Says x t → received s ≡ received t
blanks s t x u v = received_of s x u ∙ sym (received_of t x v)

pub first_of_each_lem : (s t : List ℕ) (before after : Members) (m : Member (Tree 7)) →
    Says (object (before ++ after)) s
    → Says (object (before ++ (m ∷ after))) t
    → named m.name before ≡ true
    → received s ≡ received t
first_of_each_lem s t before after m u v h =
    alike s t (object (before ++ after)) (object (before ++ (m ∷ after))) u v (stays station_name) (stays aspect_name)
    (stays tracks_name)
  where
    stays : (name : List ℕ) → first name (before ++ after) ≡ first name (before ++ (m ∷ after))
    stays name = first_stays name before after m h
