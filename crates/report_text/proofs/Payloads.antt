-- How long the payloads are that rows read.
use Rattle.std.proofs.Common.{◌≡◌, ◌⊎◌, ⊎_elim, inl, inr, ℕ, ◌≤◌, true, arith, refl, subst}
use Rattle.std.proofs.lemmas.Bool.{false≢true}
use Rattle.std.specs.Prelude.{IsTrue}
use Rattle.std.specs.Option.{ForSome}
use Rattle.binder_code.specs.Commands.{command_lines, return_lines, row_of}
use Rattle.binder_code.specs.contracts.record_kind.Kind.{the_type}
use Rattle.binder_code.specs.declared.record_kind.Kind.{Kind}
use Rattle.binder_code.specs.declared.record_kind.Kind.TheVariants.{BcFreeBuffer, BcRequestDeathNotification, BcClearDeathNotification, BcDeadBinderDone, BrDeadBinder, BrClearDeathNotificationDone}
use Rattle.audit_findings.proofs.RowsThere.{is_free, is_of_clear, is_of_death, is_request}
use denote.Enum.Bare.{sameb}

-- the payload of this kind is as long as the header's line says
abbrev pub IsSized : Kind → ℕ → Type 0
IsSized kind n = ForSome (row_of kind) (λ row. n ≡ row.size)

-- of a kind that is known
sized_as : (kind known : Kind) (n : ℕ) → kind ≡ known → IsSized kind n → IsSized known n
sized_as kind known n is sized = subst (λ (k : Kind). IsSized k n) is sized

free_only : (kind : Kind) → IsTrue (is_free kind) → kind ≡ BcFreeBuffer
free_only BcFreeBuffer is = refl
free_only _ is = absurd (false≢true is)

pub free_sized : (kind : Kind) (n : ℕ) → IsTrue (is_free kind) → IsSized kind n → 8 ≤ n
unfolding command_lines return_lines
free_sized kind n is sized = let e = sized_as kind BcFreeBuffer n (free_only kind is) sized _ refl in omega (arith, e)

request_only : (kind : Kind) → IsTrue (is_request kind) → kind ≡ BcRequestDeathNotification
request_only BcRequestDeathNotification is = refl
request_only _ is = absurd (false≢true is)

pub request_sized : (kind : Kind) (n : ℕ) → IsTrue (is_request kind) → IsSized kind n → 12 ≤ n
unfolding command_lines return_lines
request_sized kind n is sized =
    let e = sized_as kind BcRequestDeathNotification n (request_only kind is) sized _ refl in omega (arith, e)

death_only : (kind : Kind) → IsTrue (is_of_death kind) → (kind ≡ BrDeadBinder) ⊎ (kind ≡ BcDeadBinderDone)
death_only BrDeadBinder is = inl refl
death_only BcDeadBinderDone is = inr refl
death_only _ is = absurd (false≢true is)

pub death_sized : (kind : Kind) (n : ℕ) → IsTrue (is_of_death kind) → IsSized kind n → 8 ≤ n
unfolding command_lines return_lines
death_sized kind n is sized =
    ⊎_elim (λ known. let e = sized_as kind BrDeadBinder n known sized _ refl in omega (arith, e))
    (λ known. let e = sized_as kind BcDeadBinderDone n known sized _ refl in omega (arith, e)) (death_only kind is)

clear_only : (kind : Kind) → sameb the_type kind BcClearDeathNotification ≡ true → kind ≡ BcClearDeathNotification
clear_only BcClearDeathNotification is = refl
clear_only _ is = absurd (false≢true is)

-- a clear has a handle too
pub clear_long : (kind : Kind) (n : ℕ) → sameb the_type kind BcClearDeathNotification ≡ true → IsSized kind n → 12 ≤ n
unfolding command_lines return_lines
clear_long kind n is sized =
    let e = sized_as kind BcClearDeathNotification n (clear_only kind is) sized _ refl in omega (arith, e)

of_clear_only : (kind : Kind) → IsTrue (is_of_clear kind)
    → (kind ≡ BcClearDeathNotification) ⊎ (kind ≡ BrClearDeathNotificationDone)
of_clear_only BcClearDeathNotification is = inl refl
of_clear_only BrClearDeathNotificationDone is = inr refl
of_clear_only _ is = absurd (false≢true is)

pub clear_sized : (kind : Kind) (n : ℕ) → IsTrue (is_of_clear kind) → IsSized kind n → 8 ≤ n
unfolding command_lines return_lines
clear_sized kind n is sized =
    ⊎_elim (λ known. let e = sized_as kind BcClearDeathNotification n known sized _ refl in omega (arith, e))
    (λ known. let e = sized_as kind BrClearDeathNotificationDone n known sized _ refl in omega (arith, e)) (of_clear_only kind is)
