-- Of each definition by which a promise reads an enum or a Result: it tells the cases apart, so that the promise admits
-- one outcome. Each has an inverse, which gives the case back.
-- Assumes nothing.
use Rattle.std.proofs.Common.{◌≡◌, ℕ, cond, ◌∷◌, [], get_or, refl, sym, ap, ◌∙◌}
use lib.Dec.{eqb}
use Rattle.std.specs.Prelude.{⊤, Option, None, Some, Result, Ok, Err}
use Rattle.std.proofs.Math.Option as Math
use Rattle.std.proofs.Math.Option.{none, some}
use Rattle.rules.specs.Answered.{answered, aspect_number, given, made_in, reading_in, received_in}
use Rattle.rules.specs.Answered.{refusal_number, sited_in, taken_in, written_in}
use Rattle.rules.specs.declared.Aspect.{Aspect}
use Rattle.rules.specs.declared.Decimetres.{Decimetres}
use Rattle.rules.specs.declared.Made.{Made}
use Rattle.rules.specs.declared.Message.{Message}
use Rattle.rules.specs.declared.Reading.{Reading}
use Rattle.rules.specs.declared.Received.{Received}
use Rattle.rules.specs.declared.Refusal.{Refusal}
use Rattle.rules.specs.declared.Replayed.{Replayed}
use Rattle.rules.specs.declared.Sited.{Sited}
use Rattle.rules.specs.declared.Station.{Station}
use Rattle.rules.specs.declared.Taken.{Taken}
use Rattle.rules.specs.declared.Unread.{Unread}
use Rattle.rules.specs.declared.Written.{Written}

-- what has an inverse tells its arguments apart
module _ {A B : Type 0} (f : A → B) (back : B → A) (inverse : (x : A) → back (f x) ≡ x) where
  apart : (x y : A) → f x ≡ f y → x ≡ y
  apart x y e = sym (inverse x) ∙ (ap back e ∙ inverse y)

-- ---- aspects and refusals

abbrev aspect_back : ℕ → Aspect
aspect_back number =
    get_or
    (Aspect.Permitted ∷ Aspect.Clearing ∷ Aspect.Forbidden ∷ Aspect.GreatestRisk ∷ Aspect.Surroundings ∷
    Aspect.OutOfService ∷ [])
    number Aspect.Permitted

aspect_given_back : (aspect : Aspect) → aspect_back (aspect_number aspect) ≡ aspect
aspect_given_back Aspect.Permitted = refl
aspect_given_back Aspect.Clearing = refl
aspect_given_back Aspect.Forbidden = refl
aspect_given_back Aspect.GreatestRisk = refl
aspect_given_back Aspect.Surroundings = refl
aspect_given_back Aspect.OutOfService = refl

pub aspect_number_tells_apart : (a b : Aspect) → aspect_number a ≡ aspect_number b → a ≡ b
aspect_number_tells_apart = apart aspect_number aspect_back aspect_given_back

-- 0 and 13 are no refusal's number, and stand for the first
abbrev refusal_back : ℕ → Refusal
refusal_back number =
    get_or
    (Refusal.NoSuchKind ∷ Refusal.NoSuchKind ∷ Refusal.BadField ∷ Refusal.NoSuchTrack ∷ Refusal.NoSuchIsland
    ∷ Refusal.NoSuchHead ∷ Refusal.AlreadySo ∷ Refusal.NotClear ∷ Refusal.OutsideLimits ∷ Refusal.NotARegister
    ∷ Refusal.OtherVersion ∷ Refusal.CutEntry ∷ Refusal.NoRoom ∷ Refusal.NoSuchKind ∷ Refusal.NoSuchRow
    ∷ Refusal.NotJson ∷ Refusal.BadMember ∷ [])
    number Refusal.NoSuchKind

-- what is given back of a number: the one where it is 0, the other where it is 13, and else a refusal's
module _ {X : Type 0} where
  abbrev case_back : X → X → (Refusal → X) → ℕ → X
  case_back done entry refused n = cond (eqb n 0) done (cond (eqb n 13) entry (refused (refusal_back n)))

  refused_back : (done entry : X) (refused : Refusal → X) (refusal : Refusal) →
      case_back done entry refused (refusal_number refusal) ≡ refused refusal
  refused_back done entry refused Refusal.NoSuchKind = refl
  refused_back done entry refused Refusal.BadField = refl
  refused_back done entry refused Refusal.NoSuchTrack = refl
  refused_back done entry refused Refusal.NoSuchIsland = refl
  refused_back done entry refused Refusal.NoSuchHead = refl
  refused_back done entry refused Refusal.AlreadySo = refl
  refused_back done entry refused Refusal.NotClear = refl
  refused_back done entry refused Refusal.OutsideLimits = refl
  refused_back done entry refused Refusal.NotARegister = refl
  refused_back done entry refused Refusal.OtherVersion = refl
  refused_back done entry refused Refusal.CutEntry = refl
  refused_back done entry refused Refusal.NoRoom = refl
  refused_back done entry refused Refusal.NoSuchRow = refl
  refused_back done entry refused Refusal.NotJson = refl
  refused_back done entry refused Refusal.BadMember = refl

pub refusal_number_tells_apart : (a b : Refusal) → refusal_number a ≡ refusal_number b → a ≡ b
refusal_number_tells_apart =
    apart refusal_number (case_back Refusal.NoSuchKind Refusal.NoSuchKind (λ r. r))
    (refused_back Refusal.NoSuchKind Refusal.NoSuchKind (λ r. r))

-- ---- answers, and what comes with them

-- a Result of a number, and of what comes with it where that is 0
module _ {A : Type 0} where
  abbrev result_back : A → ℕ → Result A Refusal
  result_back value = case_back (Ok value) (Ok value) Err

  err_back : (value : A) (refusal : Refusal) → result_back value (refusal_number refusal) ≡ Err refusal
  err_back value refusal = refused_back (Ok value) (Ok value) Err refusal

answered_given_back : (r : Result ⊤ Refusal) → result_back tt (answered r) ≡ r
answered_given_back (Ok _) = refl
answered_given_back (Err refusal) = err_back tt refusal

pub answered_tells_apart : (r s : Result ⊤ Refusal) → answered r ≡ answered s → r ≡ s
answered_tells_apart = apart answered (result_back tt) answered_given_back

made_given_back : (r : Result Station Refusal) → (let m = made_in r in result_back m.station m.answer) ≡ r
made_given_back (Ok station) = refl
made_given_back (Err refusal) = err_back _ refusal

pub made_in_tells_apart : (r s : Result Station Refusal) → made_in r ≡ made_in s → r ≡ s
made_in_tells_apart = apart made_in (λ (m : Made). result_back m.station m.answer) made_given_back

taken_given_back : (old : Station) (r : Result Station Refusal)
    → (let t = taken_in old r in result_back t.station t.answer) ≡ r
taken_given_back old (Ok station) = refl
taken_given_back old (Err refusal) = err_back _ refusal

pub taken_in_tells_apart : (old : Station) (r s : Result Station Refusal) → taken_in old r ≡ taken_in old s → r ≡ s
taken_in_tells_apart old = apart (taken_in old) (λ (t : Taken). result_back t.station t.answer) (taken_given_back old)

sited_given_back : (r : Result Decimetres Refusal) → (let s = sited_in r in result_back s.distance s.answer) ≡ r
sited_given_back (Ok distance) = refl
sited_given_back (Err refusal) = err_back _ refusal

pub sited_in_tells_apart : (r s : Result Decimetres Refusal) → sited_in r ≡ sited_in s → r ≡ s
sited_in_tells_apart = apart sited_in (λ (s : Sited). result_back s.distance s.answer) sited_given_back

received_given_back : (r : Result Message Refusal) → (let m = received_in r in result_back m.message m.answer) ≡ r
received_given_back (Ok message) = refl
received_given_back (Err refusal) = err_back _ refusal

pub received_in_tells_apart : (r s : Result Message Refusal) → received_in r ≡ received_in s → r ≡ s
received_in_tells_apart = apart received_in (λ (m : Received). result_back m.message m.answer) received_given_back

written_given_back : (r : Result ℕ Refusal) → (let w = written_in r in result_back w.length w.answer) ≡ r
written_given_back (Ok length) = refl
written_given_back (Err refusal) = err_back _ refusal

pub written_in_tells_apart : (r s : Result ℕ Refusal) → written_in r ≡ written_in s → r ≡ s
written_in_tells_apart = apart written_in (λ (w : Written). result_back w.length w.answer) written_given_back

abbrev reading_back : Reading → Result Replayed Unread
reading_back r =
    case_back (Ok (record { count = r.count; station = r.station })) (Err (Unread.NotReplayed r.entry))
    (λ refusal. Err (Unread.Refused refusal)) r.answer

reading_given_back : (r : Result Replayed Unread) → reading_back (reading_in r) ≡ r
reading_given_back (Ok replayed) = refl
reading_given_back (Err (Unread.NotReplayed entry)) = refl
reading_given_back (Err (Unread.Refused refusal)) = refused_back _ _ (λ (x : Refusal). Err (Unread.Refused x)) refusal

pub reading_in_tells_apart : (r s : Result Replayed Unread) → reading_in r ≡ reading_in s → r ≡ s
reading_in_tells_apart = apart reading_in reading_back reading_given_back

-- ---- what there may be

module _ {A : Type 0} where
  abbrev given_back : Math.Option A → Option A
  given_back none = None
  given_back (some x) = Some x

  given_given_back : (o : Option A) → given_back (given o) ≡ o
  given_given_back None = refl
  given_given_back (Some x) = refl

pub given_tells_apart : {A : Type 0} (o p : Option A) → given o ≡ given p → o ≡ p
given_tells_apart = apart given given_back given_given_back
