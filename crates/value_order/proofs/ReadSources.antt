-- The source of a read, by the first two writes of its value.
use Rattle.std.proofs.Common.{Bool, true, false, IsTrue, ◌↔◌, ℕ, ◌≡◌, ◌<◌, ◌≤◌, ◌+◌, inl, inr, List, Some, None, sym, ◌∙◌, ap, subst, refl, arith}
use Rattle.std.specs.List.{slice_get}
use Rattle.std.proofs.lemmas.Bool.{cases_lt, false≢true}
use Rattle.std.proofs.lemmas.Option.{slice_get_within}
use Rattle.tag.proofs.Lists.{place_of, Contains-slice_get, get_at}
use Rattle.tag.specs.declared.actions.Action.TheVariants.{Write}
use Rattle.recorder.specs.declared.part.Call.{Call}
use Rattle.recorder.specs.Parts.{IsSequence}
use Rattle.value_order.specs.declared.classes.Class.{Class}
use Rattle.value_order.specs.declared.classes.Class.TheVariants as class
use Rattle.value_order.specs.Classes.{IsFirstWrite, IsClass, AreClasses, IsWriteFrom, AreNumbered}
use Rattle.value_order.specs.Writers.{AnswersValue, IsWriter}
use Rattle.value_order.specs.Sources.{HasOnlyWriter, HasLeastWriters, EndsBefore}
use Rattle.value_order.proofs.CallKinds.{not_both, one_value, one_written, one_place, call_at}

-- the invocations of a part rise
pub rise_to : (part : List Call) → IsSequence part → (i j : ℕ) (a b : Call) → i ≤ j → slice_get part i ≡ Some a → slice_get part j ≡ Some b → a.invoked ≤ b.invoked
rise_to part sequence i j a b le at_i at_j =
    elim (cases_lt i j) [
      | inl h ↦ (let up : a.invoked < b.invoked = sequence.places i j a b h at_i at_j in omega arith)
      | inr h ↦
          let same : i ≡ j = omega arith in
          let place : a.invoked ≡ b.invoked = ap (λ (x : Call). x.invoked) (call_at part i j a b at_i at_j same) in
          omega arith
    ]

-- a value has one first write
first_is_one : (part : List Call) (value : List ℕ) (k m : ℕ) → IsFirstWrite part value k → IsFirstWrite part value m → k ≡ m
first_is_one part value k m a b =
    let low = a.least m b.write b.at b.writes in
    let high = b.least k a.write a.at a.writes in
    omega arith

module _ (part : List Call) (classes : List Class) (are : AreClasses part classes) where
  -- a write's class is its value's
  class_by : (j : ℕ) (call : Call) (value : List ℕ) (k : ℕ) (is : Class) → call.action ≡ Write value → IsFirstWrite part value k → IsClass part call is → is ≡ class.Writes k
  class_by j call value k (class.Writes m) wrote first has =
      let same = one_written call has.0 value has.1 wrote in
      ap class.Writes (first_is_one part value m k (subst (λ (v : List ℕ). IsFirstWrite part v m) same has.2) first)
  class_by j call value k (class.Answers m) wrote first has = absurd (not_both call has.1.reads (value, wrote))
  class_by j call value k class.Unwritten wrote first has = absurd (not_both call has.reads (value, wrote))
  class_by j call value k class.Nothing wrote first has = absurd (not_both call has.reads (value, wrote))
  class_by j call value k class.Pending wrote first has = absurd (not_both call has.0 (value, wrote))

  pub class_of_write : (j : ℕ) (call : Call) (value : List ℕ) (k : ℕ) → slice_get part j ≡ Some call → call.action ≡ Write value → IsFirstWrite part value k → slice_get classes j ≡ Some (class.Writes k)
  class_of_write j call value k at wrote first =
      let c = get_at classes j (omega (arith, slice_get_within part j call at, are.all)) in
      c.1 ∙ ap Some (class_by j call value k c.0 wrote first (are.each j call c.0 at c.1))

  -- and the write at an index of that class writes the value
  pub written_by_class : (j k : ℕ) (call : Call) (value : List ℕ) → slice_get part j ≡ Some call → slice_get classes j ≡ Some (class.Writes k) → IsFirstWrite part value k → call.action ≡ Write value
  written_by_class j k call value at is first =
      let c = are.each j call (class.Writes k) at is in
      let own = c.2 in
      let same = one_written first.write c.0 value (ap (λ (x : Call). x.action) (call_at part k k first.write own.write first.at own.at refl) ∙ own.writes) first.writes in
      c.1 ∙ ap Write same

  module _ (sequence : IsSequence part) (read : Call) (value : List ℕ) (a : AnswersValue read value) (k : ℕ) (f : IsFirstWrite part value k) where
    -- a writer of the read writes the value, at k or after it
    writer_value : (other : Call) → IsWriter part other read → other.action ≡ Write value
    writer_value other w = w.writes ∙ ap Write (one_value read w.value value w.answered a)

    writer_by : (other : Call) → (w : IsWriter part other read) → other.invoked ≤ a.response.place
    writer_by other w = (let same = one_place read w.answered.response a.response w.answered.responds a.responds in omega (arith, w.began))

    pub ends_before : (f.write.invoked ≤ a.response.place → ⊥) → EndsBefore part read k
    ends_before not = record {
      write = f.write;
      at = f.at;
      is = record {
        value = value;
        writes = f.writes;
        answered = a;
        early = λ other w.
            let j = place_of part other w.recorded in
            let low = rise_to part sequence k j.0 f.write other (f.least j.0 other j.1 (writer_value other w)) f.at j.1 in
            let by = writer_by other w in
            not (omega arith);
      };
      least = λ j other at e. f.least j other at (e.writes ∙ ap Write (one_value read e.value value e.answered a));
    }

    first_writer : f.write.invoked ≤ a.response.place → IsWriter part f.write read
    first_writer began = record { recorded = Contains-slice_get part k f.write f.at; value = value; writes = f.writes; answered = a; began = began }

    only_by : (f.write.invoked ≤ a.response.place) → ((j : ℕ) (other : Call) → k < j → slice_get part j ≡ Some other → IsWriter part other read → ⊥) → HasOnlyWriter part read k
    only_by began none = record {
      write = f.write;
      at = f.at;
      is = record {
        writer = first_writer began;
        only = λ other w.
            let j = place_of part other w.recorded in
            let low = f.least j.0 other j.1 (writer_value other w) in
            elim (cases_lt k j.0) [
              | inl h ↦ absurd (none j.0 other h j.1 w)
              | inr h ↦ call_at part j.0 k other f.write j.1 f.at (omega arith)
            ];
      };
    }

    own_class : slice_get classes k ≡ Some (class.Writes k)
    own_class = class_of_write k f.write value k f.at f.writes f

    -- no other write of the value
    pub only_alone : f.write.invoked ≤ a.response.place → IsWriteFrom classes (k + 1) k None → HasOnlyWriter part read k
    only_alone began none = only_by began (λ j other less at w. none j (omega arith) (class_of_write j other value k at (writer_value other w) f))

    -- the next one began too late
    pub only_early : (m : ℕ) (second : Call) → f.write.invoked ≤ a.response.place → IsWriteFrom classes (k + 1) k (Some m) → slice_get part m ≡ Some second → (second.invoked ≤ a.response.place → ⊥) → HasOnlyWriter part read k
    only_early m second began next at_m late = only_by began (λ j other less at w.
        let low = next.2 j (omega arith) (class_of_write j other value k at (writer_value other w) f) in
        let rise = rise_to part sequence m j second other low at_m at in
        let by = writer_by other w in
        late (omega arith))

    -- the next one began in time
    pub two_least : (m : ℕ) (second : Call) → f.write.invoked ≤ a.response.place → IsWriteFrom classes (k + 1) k (Some m) → slice_get part m ≡ Some second → second.invoked ≤ a.response.place → HasLeastWriters part read k m
    two_least m second began next at_m in_time = record {
      one = f.write;
      two = second;
      at_one = f.at;
      at_two = at_m;
      less = omega (arith, next.0);
      first = first_writer began;
      second = record { recorded = Contains-slice_get part m second at_m; value = value; writes = written_by_class m k second value at_m next.1 f; answered = a; began = in_time };
      least = λ j other at w.
          let low = f.least j other at (writer_value other w) in
          elim (cases_lt k j) [
            | inl h ↦ inr (next.2 j (omega arith) (class_of_write j other value k at (writer_value other w) f))
            | inr h ↦ inl (omega arith)
          ];
    }

-- what a test of a call's invocation says of a write at that index
module _ (part : List Call) (k place : ℕ) (test : Bool) (said : (call : Call) × (slice_get part k ≡ Some call) × (IsTrue test ↔ (call.invoked ≤ place))) (write : Call) (at : slice_get part k ≡ Some write) (end : ℕ) (same : end ≡ place) where
  invoked_is : said.0.invoked ≡ write.invoked
  invoked_is = ap (λ (c : Call). c.invoked) (call_at part k k said.0 write said.1 at refl)

  pub began_yes : test ≡ true → write.invoked ≤ end
  began_yes is_so = (let le = said.2.0 is_so in let e = invoked_is in omega arith)

  pub began_not : test ≡ false → write.invoked ≤ end → ⊥
  began_not not_so le = (let e = invoked_is in false≢true (sym not_so ∙ said.2.1 (omega arith)))

-- each value is named by an index of the calls
pub numbered : (part : List Call) (classes : List Class) → AreClasses part classes → AreNumbered classes
numbered part classes are i k has = elim has [
  | inl w ↦
      let call = get_at part i (omega (arith, slice_get_within classes i (class.Writes k) w, are.all)) in
      let f = (are.each i call.0 (class.Writes k) call.1 w).2 in
      omega (arith, slice_get_within part k f.write f.at, are.all)
  | inr a ↦
      let call = get_at part i (omega (arith, slice_get_within classes i (class.Answers k) a, are.all)) in
      let f = (are.each i call.0 (class.Answers k) call.1 a).2 in
      omega (arith, slice_get_within part k f.write f.at, are.all)
]
