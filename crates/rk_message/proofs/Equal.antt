-- What the derived test of two asks tells, a variant at a time.
use Rattle.rk_message.proofs.Words.{◌≡◌, ap, sym, ◌∙◌, true, Bool, subst, ◌↔◌, rules, IsTrue, Ask}
use Rattle.rk_names.specs.declared.errors.KeyError.TheVariants as error
use Rattle.rk_names.specs.contracts.errors.KeyErrorPartialEq.TheImpl as of_errors
use Rattle.rk_message.specs.contracts.greeting.GreetingPartialEq.TheImpl as of_greetings
use Rattle.rk_names.specs.contracts.type_name.TypeName.{the_row as T}
use Rattle.rk_names.specs.contracts.description.Description.{the_row as D}
use Rattle.rk_names.specs.contracts.callout.Callout.{the_row as C}
use Rattle.rk_names.specs.contracts.payload.Payload.{the_row as P}
use Rattle.rk_names.specs.contracts.equality.TypeNamePartialEq.TheImpl as of_types
use Rattle.rk_names.specs.contracts.equality.DescriptionPartialEq.TheImpl as of_descriptions
use Rattle.rk_names.specs.contracts.equality.CalloutPartialEq.TheImpl as of_callouts
use Rattle.rk_names.specs.contracts.equality.PayloadPartialEq.TheImpl as of_payloads
use Rattle.rk_message.specs.contracts.ask.AskOf.{as_values, the_make, the_eta}
use Rattle.rk_message.specs.contracts.ask.AskOfPartialEq.TheImpl as derived
use mir.Syntax.{given}
use Rattle.rk_message.proofs.Tells.{Tells, signed, unsigned, text, optional, none, last, and, or, no_more}

error_test : Tells of_errors.ghosts.eq
error_test error.Revoked y = search rules
error_test _ y = search rules

greeting_test : Tells of_greetings.ghosts.eq
greeting_test x y = search rules

abbrev test : Ask → Ask → Bool
test = (derived.ghosts T D C P of_types.ghosts (given 0) of_descriptions.ghosts (given 0) of_callouts.ghosts (given 0) of_payloads.ghosts (given 0)).eq

-- in the order of the variants
same_values : (a b : Ask) → test a b ≡ true → as_values T D C P a ≡ as_values T D C P b
same_values a b =
    or (last greeting_test) (
    or (and text (and text (and (optional text) (last signed)))) (
    or (last signed) (
    or (and signed (and text (last signed))) (
    or (and signed (and unsigned (last signed))) (
    or (and signed (and unsigned (and error_test (last signed)))) (
    or (last signed) (
    or (last signed) (
    or (last signed) (
    or (and signed (last unsigned)) (
    or (and signed (last signed)) (
    or (and signed (last signed)) (
    or (last signed) (
    or (last signed) (
    or (and text (and text (and text (last signed)))) (
    or none (no_more _)))))))))))))))) (as_values T D C P a) (as_values T D C P b)

told : (a b : Ask) → test a b ≡ true → a ≡ b
told a b is = sym (the_eta T D C P a) ∙ ap (the_make T D C P) (same_values a b is) ∙ the_eta T D C P b

alike : (a : Ask) → IsTrue (test a a)
alike a = search rules

-- the test of two asks passes exactly if they are equal
pub tells : (a b : Ask) → IsTrue (test a b) ↔ (a ≡ b)
tells a b = (told a b, λ same. subst (λ (x : Ask). IsTrue (test a x)) same (alike a))
