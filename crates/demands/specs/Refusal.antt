-- Demand 1: "A refusal leaves the station and every buffer as they were, except that a report refused by 1 to 7 still
-- gets its row." A refusal is any number but 0 that is returned; of a printed text the length is returned, and 0 where
-- it does not fit. A station is handed in with a report, taken or appended; a buffer is lent in starting, appending,
-- printing, writing a message and recording a planner's text; a browser is moved. Making, reading and stepping are
-- handed no station: refused, they return the least one. (Exception: what is printed of a register that cannot be read
-- is the text that was asked for, and is written into the buffer lent for it.)
use Rattle.std.specs.Prelude.{ℕ, ◌+◌, ◌≤◌, ◌<◌, ◌≡◌, List, drop, length, take}
use Rattle.browser.specs.Browsing.{bytes_of, moved_to}
use Rattle.browser.specs.declared.Browser.{Browser}
use Rattle.rules.specs.Answers.{answer_of, taken}
use Rattle.rules.specs.Aspect.{aspect_of}
use Rattle.rules.specs.Layout.{entry_at, entry_of, entry_start}
use Rattle.rules.specs.Printer.{length_written, written}
use Rattle.rules.specs.Register.{appended, appended_bytes, start_answer, started, step_of}
use Rattle.rules.specs.Screen.{after_writing, written_of}
use Rattle.rules.specs.declared.Message.{Message}
use Rattle.rules.specs.declared.Report.{Report}
use Rattle.rules.specs.declared.Settings.{Settings}
use Rattle.rules.specs.declared.Station.{Station}
use Rattle.rules.specs.declared.Taken.{Taken}
use Rattle.rules_plan.specs.Recording.{recorded_bytes, recorded_lines, recorded_of}

-- the same bytes, but for the eight of entry k
abbrev pub SameBut : ℕ → List ℕ → List ℕ → Type 0
SameBut k b b' =
    (take (entry_start k) b ≡ take (entry_start k) b')
    × (drop (entry_start (k + 1)) b ≡ drop (entry_start (k + 1)) b')
    × (length b ≡ length b')

-- Appending a report at entry k: what is returned, and the bytes of the register then.
pub record AppendLeaves (b : List ℕ) (k : ℕ) (s : Station) (r : Report) (returned : Taken)
    (bytes : List ℕ) : Type 0 where
  pub station : (returned.answer ≡ 0 → ⊥) → returned.station ≡ s
  -- with 8 or more the register is as it was
  pub buffer : 8 ≤ returned.answer → bytes ≡ b
  -- 0 to 7 are the report's, and with 1 to 7 it gets its row: itself, its number and the aspect
  -- of the station that stayed
  pub report : returned.answer ≤ 7 → returned.answer ≡ answer_of s r
  pub row : 0 < returned.answer → returned.answer ≤ 7
      → (entry_at bytes k ≡ entry_of r returned.answer (aspect_of s)) × SameBut k bytes b

pub record RefusalLeaves : Type 0 where
  pub report : (s : Station) (r : Report) → ((taken s r).answer ≡ 0 → ⊥) → (taken s r).station ≡ s
  pub starting : (c : Settings) (b : List ℕ) → (start_answer c b ≡ 0 → ⊥) → started c b ≡ b
  pub appending : (b : List ℕ) (k : ℕ) (s : Station) (r : Report)
      → AppendLeaves b k s r (appended b k s r) (appended_bytes b k s r)
  -- A text that does not fit is not written. (Nor is an empty one, whose length is 0 too.)
  pub printing : (text b : List ℕ) → length_written text b ≡ 0 → written text b ≡ b
  -- A message that is refused is not written.
  pub writing : (m : Message) (b : List ℕ) → ((written_of m (length b)).answer ≡ 0 → ⊥) → after_writing m b ≡ b
  -- Where something is wrong with a planner's text, the bytes lent for the register stay, and the
  -- list lent for the lines of its rows.
  pub recording : (text b rows : List ℕ) → ((recorded_of text).fault ≡ 0 → ⊥)
      → (recorded_bytes text b ≡ b) × (recorded_lines text rows ≡ rows)
  -- A refused move of the browser keeps its place.
  pub moving : (w : Browser) (row : ℕ) → ((step_of (bytes_of w) row).answer ≡ 0 → ⊥) → moved_to w row ≡ w
