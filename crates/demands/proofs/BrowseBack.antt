-- Document 01, "The register": "The bench's browser is a reader that holds the lent register and a place in it. It
-- starts at row 0; a move answers as stepping does, and a refused one keeps its place." On any bytes: a refused move
-- changes nothing, one that is done stands on its row, no move changes the register held, and there is no row before
-- the first or after the last. And demand 2's "stepping back to any row gives the station as it was after that row",
-- through the browser: whatever moves came before, a move to a row does so.
-- Assumes nothing.
use Prim.Native.Nat.{ℕ, suc, ◌≤◌, ◌<◌}
use native.Mathlib.Omega.{arith}
use mathlib.Core.Path.{◌≡◌, refl, sym, ap, ◌∙◌}
use mathlib.Core.Bool.{Bool, true, false}
use mathlib.Core.List.{List, [], ◌∷◌}
use borrow.Author.Tests.{leb-false, leb-true, lt-ltb}
use denote.Ref.{Bor}
use lib.Dec.{leb}
use Rattle.browser.specs.Browsing.{bytes_of, moved_to, opened}
use Rattle.browser.specs.declared.Browser.{Browser}
use Rattle.chains.proofs.Chains.{where_done, where_refused}
use Rattle.demands.proofs.ReadBack.{filled_entries, read_back}
use Rattle.demands.specs.BrowseBack.{Browses, after_moves, moved, row_of}
use Rattle.demands.specs.ReadBack.{Filling, Room, register, station, wholly}
use Rattle.register.proofs.Replays.{sized}
use Rattle.register.proofs.Returned.{read_whole, step_above}
use Rattle.rules.specs.Browser.{Move, back, before, forward}
use Rattle.rules.specs.Layout.{entries}
use Rattle.rules.specs.Register.{reading_of, register_answer, step_answer, step_of}
use Rattle.rules.specs.declared.Reading.{Reading}

-- ---- a browser on any bytes

pub refused_stays : (w : Browser) (k : ℕ) → (step_answer (bytes_of w) k ≡ 0 → ⊥) → moved_to w k ≡ w
unfolding moved_to
refused_stays w k h =
    λ i. record { register = w.register; row = where_refused (step_answer (bytes_of w) k) k w.row h i }

pub done_stands : (w : Browser) (k : ℕ) → step_answer (bytes_of w) k ≡ 0 → (moved_to w k).row ≡ k
unfolding moved_to
done_stands w k e = where_done (step_answer (bytes_of w) k) k w.row e

pub same_register : (w : Browser) (ms : List Move) → (after_moves w ms).register ≡ w.register
unfolding after_moves moved_to
same_register w [] = refl
same_register w (m ∷ ms) = same_register (moved w m) ms

-- a row above the count of a register that passes its tests
none_above : (b : List ℕ) (k : ℕ) → register_answer b ≡ 0 → entries b < k → step_answer b k ≡ 14
unfolding step_of reading_of
none_above b k z h =
    sym (ap (λ (r : Reading). r.answer)
    (step_above b (register_answer b) refl z k (entries b) refl (lt-ltb (entries b) k h) _ refl))

pub back_from_first : (w : Browser) → w.row ≡ 0 → register_answer (bytes_of w) ≡ 0
    → step_answer (bytes_of w) (row_of w back) ≡ 14
back_from_first w e z =
    ap (λ (k : ℕ). step_answer (bytes_of w) (before k)) e
    ∙ none_above (bytes_of w) 8191 z (omega (arith, (sized (bytes_of w) z).1))

pub forward_from_last : (w : Browser) → w.row ≡ entries (bytes_of w) → register_answer (bytes_of w) ≡ 0
    → step_answer (bytes_of w) (row_of w forward) ≡ 14
forward_from_last w e z = none_above (bytes_of w) (suc w.row) z (omega (arith, e))

-- ---- a browser on a register that was started and filled

module _ (f : Filling) (n : ℕ) (room : Room f n) where
  module _ (w : Browser) (same : bytes_of w ≡ register f n) where
    -- a row that there is
    as_it_was : (k : ℕ) → k ≤ n → step_of (bytes_of w) k ≡ wholly k (station f k)
    as_it_was k h = ap (λ (b : List ℕ). step_of b k) same ∙ (read_back f n room).steps k h

    stands_there : (k : ℕ) → k ≤ n → (moved_to w k).row ≡ k
    unfolding step_of reading_of
    stands_there k h = done_stands w k (ap (λ (r : Reading). r.answer) (as_it_was k h))

    -- a row that there is not
    no_such_row_lem : (k : ℕ) → n < k → step_answer (bytes_of w) k ≡ 14
    no_such_row_lem k h =
        let done = (read_whole (register f n) (ap (λ (r : Reading). r.answer) (read_back f n room).whole)).0 in
        ap (λ (b : List ℕ). step_answer b k) same
        ∙ none_above (register f n) k done (omega (arith, filled_entries f n room))

    stays_here : (k : ℕ) → n < k → moved_to w k ≡ w
    stays_here k h = refused_stays w k (λ e. omega (arith, no_such_row_lem k h))

    still_within : (k : ℕ) → w.row ≤ n → (moved_to w k).row ≤ n
    still_within k h = go (leb k n) refl
      where
        go : (t : Bool) → leb k n ≡ t → (moved_to w k).row ≤ n
        go true q = omega (arith, leb-true k n q, stands_there k (leb-true k n q))
        go false q = omega (arith, ap (λ (v : Browser). v.row) (stays_here k (leb-false k n q)))

  within : (w : Browser) (ms : List Move) → bytes_of w ≡ register f n → w.row ≤ n → (after_moves w ms).row ≤ n
  unfolding after_moves
  within w [] same h = h
  within w (m ∷ ms) same h =
      within (moved w m) ms (ap (λ x. x.now) (same_register w (m ∷ [])) ∙ same) (still_within w same (row_of w m) h)

pub browse_back : (f : Filling) (n : ℕ) → Room f n → (r : Bor (List ℕ)) → r.now ≡ register f n → (ms : List Move)
    → Browses f n r (after_moves (opened r) ms)
unfolding step_of reading_of
browse_back f n room r e ms =
    let w = after_moves (opened r) ms in
    let held = same_register (opened r) ms in
    let same = ap (λ x. x.now) held ∙ e in
    let row = within f n room (opened r) ms e (omega arith) in
    record {
      same = held;
      stands = row;
      here = as_it_was f n room w same w.row row;
      shows = λ m h. (as_it_was f n room w same (row_of w m) h, stands_there f n room w same (row_of w m) h);
      refuses = λ m h. (no_such_row_lem f n room w same (row_of w m) h, stays_here f n room w same (row_of w m) h);
    }
