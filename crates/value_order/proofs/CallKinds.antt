-- What a call can't be at once.
use Rattle.std.proofs.Common.{ℕ, ◌≡◌, ◌⊎◌, inl, inr, List, Option, Some, None, sym, ◌∙◌, ap, subst, refl}
use Rattle.std.specs.List.{slice_get, Contains}
use Rattle.std.proofs.lemmas.Option.{same_Some, none-some}
use Rattle.tag.specs.declared.actions.Action.{Action}
use Rattle.tag.specs.declared.actions.Action.TheVariants.{Read, Write}
use Rattle.tag.specs.declared.actions.Returned.TheVariants.{Value}
use Rattle.recorder.specs.declared.part.Call.{Call}
use Rattle.recorder.specs.declared.part.Response.{Response}
use Rattle.recorder.specs.Parts.{IsSequence, IsPending}
use Rattle.recorder.specs.Sound.{IsRead, IsWrite}
use Rattle.recorder.specs.States.{place_in}
use Rattle.recorder.proofs.Sequences.{same_index}
use Rattle.value_order.specs.Writers.{AnswersValue, AnswersNothing, IsOnlyWriter, IsInDoubt}
use Rattle.value_order.specs.Families.{IsOfFamily}
use Rattle.value_order.specs.Faults.{AnswersUnwritten}

-- a call reads or writes, and not both
pub read_or_write : (call : Call) → IsRead call ⊎ IsWrite call
read_or_write call = by call.action refl
  where
    by : (action : Action) → call.action ≡ action → IsRead call ⊎ IsWrite call
    by Read e = inl e
    by (Write value) e = inr (value, e)

pub not_both : (call : Call) → IsRead call → IsWrite call → ⊥
not_both call read write = let wrote = write.1 in cc

-- a pending call wasn't answered
pub not_answered : (call : Call) (response : Response) → IsPending call → call.response ≡ Some response → ⊥
not_answered call response pending answered = cc

-- one answer: nothing isn't a value, and two values are one
pub nothing_no_value : (call : Call) (value : List ℕ) → AnswersNothing call → AnswersValue call value → ⊥
nothing_no_value call value n v =
    let same : n.response ≡ v.response = same_Some n.response v.response (sym n.responds ∙ v.responds) in
    let is : v.response.returned ≡ Value None = ap (λ (r : Response). r.returned) (sym same) ∙ n.answers in
    absurd (cc (is, v.answers))

pub one_value : (call : Call) (v w : List ℕ) → AnswersValue call v → AnswersValue call w → v ≡ w
one_value call v w a b =
    let same : a.response ≡ b.response = same_Some a.response b.response (sym a.responds ∙ b.responds) in
    let is : a.response.returned ≡ Value (Some w) = ap (λ (r : Response). r.returned) same ∙ b.answers in
    cc (is, a.answers)

pub one_place : (call : Call) (a b : Response) → call.response ≡ Some a → call.response ≡ Some b → a.place ≡ b.place
one_place call a b p q = ap (λ (r : Response). r.place) (same_Some a b (sym p ∙ q))

-- a state's place of a response is the call's
pub place_is : (call : Call) (response : Response) (state : Option ℕ) (place : ℕ) → state ≡ place_in call.response → state ≡ Some place → call.response ≡ Some response → response.place ≡ place
place_is call response state place of is responds = same_Some response.place place (sym (ap place_in responds) ∙ (sym of ∙ is))

pub has_place : (call : Call) (state : Option ℕ) (place : ℕ) → state ≡ place_in call.response → state ≡ Some place → (response : Response) × (call.response ≡ Some response) × (response.place ≡ place)
has_place call state place of is = by call.response refl
  where
    by : (r : Option Response) → call.response ≡ r → (response : Response) × (call.response ≡ Some response) × (response.place ≡ place)
    by None e = absurd (none-some place (ap place_in (sym e) ∙ (sym of ∙ is)))
    by (Some r) e = (r, e, place_is call r state place of is e)

pub one_written : (call : Call) (v w : List ℕ) → call.action ≡ Write v → call.action ≡ Write w → v ≡ w
one_written call v w p q = cc

-- a read that answers a value that is written isn't unwritten
pub written_not_unwritten : (part : List Call) (write read : Call) (value : List ℕ) → Contains part write → write.action ≡ Write value → AnswersValue read value → AnswersUnwritten part read → ⊥
written_not_unwritten part write read value there wrote a u =
    let same : u.response ≡ a.response = same_Some u.response a.response (sym u.responds ∙ a.responds) in
    u.unwritten write value there wrote (ap (λ (r : Response). r.returned) same ∙ a.answers)

pub nothing_not_unwritten : (part : List Call) (read : Call) → AnswersNothing read → AnswersUnwritten part read → ⊥
nothing_not_unwritten part read n u =
    let same : u.response ≡ n.response = same_Some u.response n.response (sym u.responds ∙ n.responds) in
    u.some (ap (λ (r : Response). r.returned) same ∙ n.answers)

-- the writer of a read with one writer is one
pub only_recorded : (part : List Call) (write read : Call) → IsOnlyWriter part write read → Contains part write
only_recorded part write read o = o.writer.recorded

pub only_reads : (part : List Call) (write read : Call) → IsOnlyWriter part write read → IsRead read
only_reads part write read o = o.writer.answered.reads

pub only_one : (part : List Call) (a b read : Call) → IsOnlyWriter part a read → IsOnlyWriter part b read → a ≡ b
only_one part a b read p q = q.only a p.writer

-- a call is of one family
pub one_family : (part : List Call) (x y call : Call) → IsOfFamily part (IsOnlyWriter part) x call → IsOfFamily part (IsOnlyWriter part) y call → x ≡ y
one_family part x y call p q = elim p.belongs [
  | inl same ↦ elim q.belongs [
    | inl other ↦ sym same ∙ other
    | inr reads ↦ absurd (not_both call (only_reads part y call reads) (subst IsWrite (sym same) p.writes))
  ]
  | inr reads ↦ elim q.belongs [
    | inl other ↦ absurd (not_both call (only_reads part x call reads) (subst IsWrite (sym other) q.writes))
    | inr others ↦ only_one part x y call reads others
  ]
]

-- the same call stands at one index
pub index_of : (part : List Call) → IsSequence part → (i j : ℕ) (a b : Call) → slice_get part i ≡ Some a → slice_get part j ≡ Some b → a ≡ b → i ≡ j
index_of part sequence i j a b at_i at_j same = same_index part sequence i j a b at_i at_j (ap (λ (c : Call). c.op.0) same)

pub call_at : (part : List Call) (i j : ℕ) (a b : Call) → slice_get part i ≡ Some a → slice_get part j ≡ Some b → i ≡ j → a ≡ b
call_at part i j a b at_i at_j same = same_Some a b (sym at_i ∙ (ap (slice_get part) same ∙ at_j))

-- a read in doubt has no only writer, and a writer
pub doubt_not_only : (part : List Call) (write read : Call) → IsInDoubt part read → IsOnlyWriter part write read → ⊥
doubt_not_only part write read d o = d.apart (o.only d.one d.first ∙ sym (o.only d.two d.second))
