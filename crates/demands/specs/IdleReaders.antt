-- Document 02, request 1: what is asked of a reader, and idle readers that it shuts out.
use Rattle.std.specs.Prelude.{ℕ, ◌≡◌, cond, List, reverse, eqb}
use Rattle.demands.specs.Exactly.{GivenExactly}
use Rattle.demands.specs.Screens.{MessageIs, Says}
use Rattle.demands.specs.Stated.{of_receiving}
use Rattle.rules.specs.Screen.{members_of, message_in, no_message, ours, received}
use Rattle.rules.specs.declared.Received.{Received}
use Rattle.rules_json.specs.Abnf.{octets}
use Rattle.rules_json.specs.Tree.{Tree}

-- Each number in its case; zeros and no tracks where it refuses; and otherwise the first of each of ours.
pub record ReadsAsAsked (read : List ℕ → Received) : Type 0 where
  pub answers : (s : List ℕ) → GivenExactly (of_receiving s) (read s).answer
  pub refused : (s : List ℕ) → ((read s).answer ≡ 0 → ⊥) → (read s).message ≡ no_message
  pub gives : (s : List ℕ) (x : Tree 8) → Says x s → (read s).answer ≡ 0 → MessageIs (read s).message (members_of x)

-- One that answers 15 to everything, and one that answers 16.
abbrev pub answers_always : ℕ → List ℕ → Received
answers_always n s = record { answer = n; message = no_message }

-- One that answers as it should, and gives zeros.
abbrev pub gives_zeros : List ℕ → Received
gives_zeros s = record { answer = (received s).answer; message = no_message }

-- One that gives the last of each of ours.
abbrev pub gives_last : List ℕ → Received
gives_last s = record {
  answer = (received s).answer;
  message = cond (eqb (received s).answer 0) (message_in (reverse (ours s))) no_message;
}

-- ---- texts at which they fall

abbrev pub one_track : List ℕ
one_track = octets "{\"station\":1,\"aspect\":0,\"tracks\":[[1,1,1,1,1]]}"

abbrev pub two_stations : List ℕ
two_stations = octets "{\"station\":1,\"aspect\":0,\"tracks\":[[1,1,1,1,1]],\"station\":2}"
