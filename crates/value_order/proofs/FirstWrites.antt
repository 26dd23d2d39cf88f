-- The first writes of values, call by call.
use Rattle.std.proofs.Common.{ℕ, ◌≡◌, inl, inr, List, [], ◌∷◌, ◌++◌, Option, Some, None, length, sym, ◌∙◌, ap, subst, arith}
use Rattle.std.specs.List.{slice_get, Contains}
use Rattle.std.proofs.lemmas.Option.{same_Some, slice_get_within}
use Rattle.tag.proofs.Lists.{place_of, push_cases}
use Rattle.tag.specs.declared.actions.Action.TheVariants.{Write}
use Rattle.tag.specs.declared.actions.Returned.TheVariants.{Value, Written}
use Rattle.recorder.specs.declared.part.Call.{Call}
use Rattle.recorder.specs.declared.part.Response.{Response}
use Rattle.recorder.specs.Sound.{IsRead}
use Rattle.value_order.specs.declared.classes.Class.{Class}
use Rattle.value_order.specs.Classes.{IsFirstWrite, IsFirstBelow, IsClass}
use Rattle.value_order.specs.Faults.{AnswersUnwritten}

-- of all calls: a write has a first one
pub first_there : (part : List Call) (value : List ℕ) (call : Call) (o : Option ℕ) → Contains part call → call.action ≡ Write value → IsFirstBelow part value (length part) o → o ≡ None → ⊥
first_there part value call o there wrote first e =
    let none : IsFirstBelow part value (length part) None = subst (IsFirstBelow part value (length part)) e first in
    let k = place_of part call there in
    none k.0 call (slice_get_within part k.0 call k.1) k.1 wrote

pub first_some : (part : List Call) (value : List ℕ) (n k : ℕ) (o : Option ℕ) → o ≡ Some k → IsFirstBelow part value n o → IsFirstWrite part value k
first_some part value n k o e first = subst (IsFirstBelow part value n) e first

-- a read that answers what no write writes
pub answers_unwritten : (part : List Call) (read : Call) (response : Response) (value : List ℕ) (o : Option ℕ) → IsRead read → read.response ≡ Some response → response.returned ≡ Value (Some value) → o ≡ None → IsFirstBelow part value (length part) o → AnswersUnwritten part read
answers_unwritten part read response value o reads responds answers none first = record {
  response = response;
  reads = reads;
  responds = responds;
  some = λ e. cc (answers, e);
  unwritten = λ write other there wrote e. first_there part value write o there (wrote ∙ ap Write (cc (answers, e))) first none;
}

-- or is answered as writes are
pub answers_written : (part : List Call) (read : Call) (response : Response) → IsRead read → read.response ≡ Some response → response.returned ≡ Written → AnswersUnwritten part read
answers_written part read response reads responds answers = record {
  response = response;
  reads = reads;
  responds = responds;
  some = λ e. cc (answers, e);
  unwritten = λ write other there wrote e. cc (answers, e);
}

-- one class more
pub classes_more : (part : List Call) (classes : List Class) (i : ℕ) (class : Class) → length classes ≡ i → (call : Call) × (slice_get part i ≡ Some call) × IsClass part call class → ((k : ℕ) (call : Call) (class : Class) → slice_get part k ≡ Some call → slice_get classes k ≡ Some class → IsClass part call class) → (k : ℕ) (call : Call) (other : Class) → slice_get part k ≡ Some call → slice_get (classes ++ class ∷ []) k ≡ Some other → IsClass part call other
classes_more part classes i class count here was k call other at_k there = elim (push_cases classes class k other there) [
  | inl h ↦ was k call other at_k h
  | inr h ↦
      let place : k ≡ i = omega (arith, h.0) in
      let same : here.0 ≡ call = same_Some here.0 call (sym here.1 ∙ (ap (slice_get part) (sym place) ∙ at_k)) in
      subst (λ (c : Class). IsClass part call c) h.1 (subst (λ (c : Call). IsClass part c class) same here.2)
]
