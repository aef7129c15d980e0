-- Rows B8 and B9, for the words of specs/BrowseBack: a browser, as the struct has it, and its moves one after the
-- other. What a move shows and where it leads is tried in rules, B1 to B7.
use Rattle.std.specs.Prelude.{ℕ, List, [], ◌∷◌, ◌++◌}
use Rattle.browser.specs.Browsing.{opened}
use Rattle.browser.specs.declared.Browser.{Browser}
use Rattle.demands.specs.BrowseBack.{after_moves, moved, shown}
use Rattle.rules.specs.Aspect.{aspect_of}
use Rattle.rules.specs.Browser.{Move, back, forward, to}
use Rattle.rules.specs.rows.RegisterRefusals.{sound}
use Rattle.rules.specs.rows.Row.{Row, rows, together}

-- a browser of these bytes, which are lent at some place, just opened
abbrev pub on : List ℕ → Browser
on bytes = opened (record { ref_ptr = (3, 7); now = bytes })

-- for each move: its answer, its count and the aspect of the station that it shows, and the row
-- that the browser stands on then
abbrev pub walk : Browser → List Move → List ℕ
walk w [] = []
walk w (m ∷ ms) =
    (shown w m).answer ∷ (shown w m).count ∷ aspect_of (shown w m).station ∷ (moved w m).row ∷ walk (moved w m) ms

-- where the register lies that the browser holds
abbrev pub place : Browser → List ℕ
place w = w.register.ref_ptr.0 ∷ w.register.ref_ptr.1 ∷ []

abbrev pub browse_rows : List Row
browse_rows =
    -- B8: it starts at row 0, and holds the lent register where it lies, whatever moves come after
    rows 8 ((on sound).row ∷ place (on sound)) (0 ∷ 3 ∷ 7 ∷ [])
    ++ rows 8 (place (after_moves (on sound) (to 4 ∷ back ∷ to 9 ∷ forward ∷ []))) (3 ∷ 7 ∷ [])
    -- moves come one after the other
    ++ rows 8 ((after_moves (on sound) (to 4 ∷ back ∷ [])).row ∷ []) (3 ∷ [])
    -- B9: a move goes by the register that is held and by the row that the browser stands on,
    -- which a refused one leaves
    ++ rows 9 (walk (on sound) (to 3 ∷ forward ∷ back ∷ back ∷ to 6 ∷ back ∷ []))
    (together ((0 ∷ 3 ∷ 1 ∷ 3 ∷ []) ∷ (0 ∷ 4 ∷ 2 ∷ 4 ∷ []) ∷ (0 ∷ 3 ∷ 1 ∷ 3 ∷ []) ∷ (0 ∷ 2 ∷ 1 ∷ 2 ∷ [])
    ∷ (14 ∷ 0 ∷ 5 ∷ 2 ∷ []) ∷ (0 ∷ 1 ∷ 0 ∷ 1 ∷ []) ∷ []))
