-- Document 02, request 1, "Aspect to the passenger screens": what is written, in a buffer that is lent, and that it is
-- read back.
-- Assumes nothing.
use Prim.Native.Nat.{ℕ, ◌≤◌}
use native.Mathlib.Decide.{ℕ_discrete}
use native.Mathlib.Omega.{arith}
use mathlib.Core.Logic.{◌↔◌}
use mathlib.Core.Path.{◌≡◌, sym, ap, ◌∙◌}
use mathlib.Core.Bool.{true, not}
use mathlib.Core.List.{List, ◌++◌}
use borrow.Author.Tests.{ltb-false, not-false}
use lib.Dec.{ltb}
use lib.ListN.{drop, length, length-append, length-drop, take}
use lib.Seq.{drop-append_seam, take-append_seam}
use Rattle.chains.proofs.Chains.{passed, where_done, where_refused}
use Rattle.demands.proofs.MessageTexts.{written_solid}
use Rattle.demands.proofs.ScreensBack.{written_is, written_says}
use Rattle.demands.proofs.ScreensExactly.{given_is, message_read}
use Rattle.demands.proofs.ScreensRead.{blanks, first_of_each_lem, given, refused, said, skips, takes}
use Rattle.demands.proofs.ScreensStated.{done_taken}
use Rattle.demands.proofs.StationMessage.{station_fits}
use Rattle.demands.specs.Screens.{Fits, MessageIs, Reads, Says, Writes, object_of}
use Rattle.rules.specs.Screen.{after_writing, members_of, message_fits, received, writing_answer, written, written_of}
use Rattle.rules.specs.declared.Message.{Message}
use Rattle.rules.specs.declared.Received.{Received}
use Rattle.rules_json.specs.Tree.{Tree}

module _ (m : Message) (b : List ℕ) where
  abbrev answer : ℕ
  answer = writing_answer m (length b)

  abbrev size : ℕ
  size = (written_of m (length b)).length

  -- answered 0, the message fits, and so does its text
  done_fits : answer ≡ 0 → (message_fits m ≡ true) × (length (written m) ≤ length b)
  unfolding writing_answer
  done_fits z =
      let h = passed 15 (not (message_fits m)) _ z in (
        not-false (message_fits m) h.0,
        ltb-false (length b) (length (written m))
            (passed 11 (ltb (length b) (length (written m))) 0 h.1).0,
      )

  done_size : answer ≡ 0 → size ≡ length (written m)
  unfolding written_of
  done_size z = where_done answer (length (written m)) 0 z

  done_bytes : answer ≡ 0 → after_writing m b ≡ written m ++ drop (length (written m)) b
  unfolding after_writing
  done_bytes z = where_done answer (written m ++ drop (length (written m)) b) b z

  refused_size : (answer ≡ 0 → ⊥) → size ≡ 0
  unfolding written_of
  refused_size z = where_refused answer (length (written m)) 0 z

  refused_bytes : (answer ≡ 0 → ⊥) → after_writing m b ≡ b
  unfolding after_writing
  refused_bytes z = where_refused answer (written m ++ drop (length (written m)) b) b z

  -- the text stands there, up to the length
  done_text : answer ≡ 0 → take size (after_writing m b) ≡ written m
  done_text z = (λ i. take (done_size z i) (done_bytes z i))
      ∙ take-append_seam (written m) (drop (length (written m)) b)

  past : (drop size (after_writing m b) ≡ drop size b) × (length (after_writing m b) ≡ length b)
  past = go (ℕ_discrete answer 0)
    where
      go : Dec (answer ≡ 0) → (drop size (after_writing m b) ≡ drop size b) × (length (after_writing m b) ≡ length b)
      go (yes z) = (
        (λ i. drop (done_size z i) (done_bytes z i))
            ∙ drop-append_seam (written m) (drop (length (written m)) b)
            ∙ ap (λ (n : ℕ). drop n b) (sym (done_size z)),
        ap (length {A = ℕ}) (done_bytes z)
            ∙ length-append (written m) (drop (length (written m)) b)
            ∙ omega (arith, length-drop (length (written m)) b, (done_fits z).1),
      )
      go (no z) = (ap (drop size) (refused_bytes z), ap (length {A = ℕ}) (refused_bytes z))

gives : (s : List ℕ) (m : Message) → received s ≡ record { answer = 0; message = m }
    ↔ ((x : Tree 8) × Says x s × MessageIs m (members_of x))
gives s m = (
  (λ e. let (x, t, whole) = done_taken s (ap (λ (r : Received). r.answer) e) in (x, t, (given_is x s t m whole e).0)),
  λ (x, t, is). let (whole, same) = message_read (members_of x) m is in given s x t whole
      ∙ λ i. record { answer = 0; message = same i },
)

fits : (s : List ℕ) (m : Message) → received s ≡ record { answer = 0; message = m } → Fits m
fits s m e = let (x, t, whole) = done_taken s (ap (λ (r : Received). r.answer) e) in (given_is x s t m whole e).1

back : (m : Message) → Fits m → received (written m) ≡ record { answer = 0; message = m }
back m h = (gives (written m) m).1 (object_of m, written_says m h, written_is m h)

pub reads : Reads
reads =
    record {
      takes = takes;
      reads = said;
      says_one = λ s x y t u. sym (said s x t) ∙ said s y u;
      gives = gives;
      fits = fits;
      refused = refused;
      blanks = blanks;
      skips = skips;
      first_of_each = first_of_each_lem;
    }

pub writes : Writes
unfolding written_of
writes =
    record {
      says = written_says;
      no_blanks = written_solid;
      back = back;
      back_from = λ m b digits z. ap received (done_text m b z) ∙ back m ((done_fits m b z).0, digits);
      past = past;
      refused = λ m b z. (refused_size m b z, refused_bytes m b z);
      of_station = λ n s few. station_fits n few s;
    }
