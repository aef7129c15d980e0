-- Document 01, "The register": "The bench's browser is a reader that holds the lent register and a place in it.
-- It starts at row 0; a move answers as stepping does, and a refused one keeps its place." And demand 2's
-- "stepping back to any row gives the station as it was after that row", through the browser: whatever moves
-- came before, a move to a row does so.
use Rattle.std.specs.Prelude.{ℕ, ◌≤◌, ◌<◌, ◌≡◌, List, [], ◌∷◌}
use Rattle.std.specs.Borrow.{Bor}
use Rattle.browser.specs.Browsing.{bytes_of, moved_to}
use Rattle.browser.specs.declared.Browser.{Browser}
use Rattle.demands.specs.ReadBack.{Filling, station, wholly}
use Rattle.rules.specs.Browser.{Move, leads_to}
use Rattle.rules.specs.Numbers.{no_such_row}
use Rattle.rules.specs.Register.{step_of}
use Rattle.rules.specs.declared.Reading.{Reading}

-- the row that a move of the browser leads to
abbrev pub row_of : Browser → Move → ℕ
row_of w m = leads_to w.row m

-- what a move shows, and the browser after it
abbrev pub shown : Browser → Move → Reading
shown w m = step_of (bytes_of w) (row_of w m)

abbrev pub moved : Browser → Move → Browser
moved w m = moved_to w (row_of w m)

unfoldable pub after_moves : Browser → List Move → Browser
after_moves w [] = w
after_moves w (m ∷ ms) = after_moves (moved w m) ms

-- A browser opened on a register of n reports, after any moves: it holds the same register, at the same place, and
-- stands on a row that there is, which it shows as it was; a move to a row that there is shows it as it was, and stands
-- there; any other is refused with 14, and keeps its place.
pub record Browses (f : Filling) (n : ℕ) (register : Bor (List ℕ)) (w : Browser) : Type 0 where
  pub same : w.register ≡ register
  pub stands : w.row ≤ n
  pub here : step_of (bytes_of w) w.row ≡ wholly w.row (station f w.row)
  pub shows : (m : Move) → row_of w m ≤ n
      → (shown w m ≡ wholly (row_of w m) (station f (row_of w m))) × ((moved w m).row ≡ row_of w m)
  pub refuses : (m : Move) → n < row_of w m → ((shown w m).answer ≡ no_such_row) × (moved w m ≡ w)
