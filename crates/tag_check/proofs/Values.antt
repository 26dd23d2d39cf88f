-- What a read's tag stands for, and what it answers.
use Rattle.std.proofs.Common.{ℕ, ◌≡◌, ◌≢◌, ◌<◌, ◌≤◌, ◌+◌, true, false, List, Option, Some, None, length, refl, ap, sym, ◌∙◌, subst, arith}
use Rattle.std.specs.List.{slice_get, Contains}
use Rattle.std.specs.Option.{is_some, MatchOption}
use Rattle.std.proofs.lemmas.Bool.{false≢true}
use Rattle.std.proofs.lemmas.Option.{same_Some, slice_get_within}
use Rattle.tag.specs.declared.actions.Action.TheVariants.{Write}
use Rattle.tag.specs.declared.actions.Returned.TheVariants.{Value}
use Rattle.tag.specs.declared.numbers.OpId.{OpId}
use Rattle.tag.specs.Tags.{Tag, least}
use Rattle.recorder.specs.declared.part.Call.{Call}
use Rattle.recorder.specs.declared.part.Response.{Response}
use Rattle.recorder.specs.Parts.{IsSequence}
use Rattle.tag_check.proofs.ByTag.{write_there}
use Rattle.tag_check.proofs.Calls.{first_here, all_more}
use Rattle.tag.proofs.Lists.{place_of, Contains-slice_get}
use Rattle.tag_check.specs.declared.notes.Answer.TheVariants.{Right, Other}
use Rattle.tag_check.specs.Answers.{IsAnswer}
use Rattle.tag_check.specs.Rules.{IsAnsweredRead, IsWriteOf, IsWriteWith, IsValueOf, AnswersNoWrite, AnswersRight, AllAnswerRight, AnswersOther, AnswersAnother, IsOtherValue}
use Rattle.tag_check.specs.Writes.{HasWriteAt, HaveOwnTags}

-- a tag that no index has has no write
pub no_write : (calls : List Call) (tag : Tag) → ((k : ℕ) → HasWriteAt calls tag k → ⊥) → (write : Call) → Contains calls write → IsWriteOf write tag → ⊥
no_write calls tag none write there wrote = let k = place_of calls write there in none k.0 (write, k.1, wrote)

pub write_found : (calls : List Call) (tag : Tag) (k : ℕ) → HasWriteAt calls tag k → (call : Call) (text : List ℕ) → slice_get calls k ≡ Some call → call.action ≡ Write text → IsWriteWith calls tag call.op text
write_found calls tag k has call text at wrote = record {
  write = call;
  recorded = Contains-slice_get calls k call at;
  number = refl;
  noted = (write_there calls tag k call at has).1;
  writes = wrote;
}

-- one value is written with a tag
one_text : (calls : List Call) → HaveOwnTags calls → (tag : Tag) (a b : OpId) (x y : List ℕ) → IsWriteWith calls tag a x → IsWriteWith calls tag b y → Some x ≡ Some y
one_text calls own tag a b x y first second =
    let i = place_of calls first.write first.recorded in
    let j = place_of calls second.write second.recorded in
    let index : i.0 ≡ j.0 = own tag i.0 j.0 (first.write, i.1, ((x, first.writes), first.noted)) (second.write, j.1, ((y, second.writes), second.noted)) in
    let one : first.write ≡ second.write = same_Some first.write second.write (sym i.1 ∙ (ap (slice_get calls) index ∙ j.1)) in
    cc (one, first.writes, second.writes)

-- a read of another tag than the least that stands for no value
pub right_without_write : (calls : List Call) (call : Call) (tag : Tag) → call.note ≡ Some tag → tag ≢ least → ((write : Call) → Contains calls write → IsWriteOf write tag → ⊥) → AnswersRight calls call
right_without_write calls call tag noted other none = λ t write value response reads noted_t responds stands. by_write t (same_Some tag t (sym noted ∙ noted_t)) write value stands
  where
    by_write : (t : Tag) → tag ≡ t → (write : Option OpId) (value : Option (List ℕ)) → IsValueOf calls t write value → {X : Type 0} → X
    by_write t same None value stands = absurd (other (same ∙ stands.0))
    by_write t same (Some op) value stands = absurd (none stands.2.write stands.2.recorded ((stands.1, stands.2.writes), stands.2.noted ∙ ap Some (sym same)))

-- a read that answers what its tag stands for
pub right_here : (calls : List Call) → HaveOwnTags calls → (call : Call) (response : Response) (tag : Tag) (write : Option OpId) (value : Option (List ℕ)) → call.note ≡ Some tag → call.response ≡ Some response → IsValueOf calls tag write value → response.returned ≡ Value value → AnswersRight calls call
right_here calls own call response tag write value noted responds stands right t other wanted answered reads noted_t responds_t stands_t =
    let same : t ≡ tag = same_Some t tag (sym noted_t ∙ noted) in
    let one : answered ≡ response = same_Some answered response (sym responds_t ∙ responds) in
    let of_tag : IsValueOf calls tag other wanted = subst (λ (x : Tag). IsValueOf calls x other wanted) same stands_t in
    ap (λ (x : Response). x.returned) one ∙ (right ∙ ap Value (one_value tag write other value wanted stands of_tag))
  where
    one_value : (tag : Tag) (a b : Option OpId) (x y : Option (List ℕ)) → IsValueOf calls tag a x → IsValueOf calls tag b y → x ≡ y
    one_value tag None None x y p q = p.1 ∙ sym q.1
    one_value tag None (Some b) x y p q = absurd (q.0 p.0)
    one_value tag (Some a) None x y p q = absurd (p.0 q.0)
    one_value tag (Some a) (Some b) x y p q = p.3 ∙ (one_text calls own tag a b p.1 q.1 p.2 q.2 ∙ sym q.3)

-- a read that answers right answers no other value
pub right_not_another : (calls : List Call) (call : Call) → AnswersRight calls call → AnswersAnother calls call → ⊥
right_not_another calls call right found =
    let other = found.1 in
    other.other (right other.tag found.0 other.value other.response other.reads other.noted other.responds other.stands)

-- what a tag stands for is written, or it is the least
has_write : (calls : List Call) (tag other : Tag) → tag ≡ other → (write : Option OpId) (value : Option (List ℕ)) → IsValueOf calls tag write value
    → other ≢ least → ((call : Call) → Contains calls call → IsWriteOf call other → ⊥) → ⊥
has_write calls tag other same None value stands above unwritten = above (sym same ∙ stands.0)
has_write calls tag other same (Some op) value stands above unwritten =
    unwritten stands.2.write stands.2.recorded ((stands.1, stands.2.writes), stands.2.noted ∙ ap Some same)

-- a read whose tag stands for something has a write, if it isn't the least
pub stands_not_without : (calls : List Call) (call : Call) (tag : Tag) (write : Option OpId) (value : Option (List ℕ)) → call.note ≡ Some tag
    → IsValueOf calls tag write value → AnswersNoWrite calls call → ⊥
stands_not_without calls call tag write value noted stands h =
    has_write calls tag h.tag (same_Some tag h.tag (sym noted ∙ h.answered.2)) write value stands h.other h.unwritten

-- a read whose tag stands for something answers that, or another value
module _ (calls : List Call) (call : Call) (response : Response) (tag : Tag) (write : Option OpId) (value : Option (List ℕ)) (read : IsAnsweredRead call tag)
    (responds : call.response ≡ Some response) (stands : IsValueOf calls tag write value) where
  pub is_right : HaveOwnTags calls → response.returned ≡ Value value → IsAnswer calls call Right
  is_right own right = (right_here calls own call response tag write value read.2 responds stands right, stands_not_without calls call tag write value read.2 stands)

  pub is_other : (response.returned ≡ Value value → ⊥) → IsAnswer calls call (Other write)
  is_other other = (
    record {
      tag = tag;
      value = value;
      response = response;
      reads = read.0;
      noted = read.2;
      responds = responds;
      stands = stands;
      other = other;
    },
    stands_not_without calls call tag write value read.2 stands,
  )

-- of the calls below index i the first that answers another value, with its write
abbrev pub IsFirstOther : List Call → ℕ → Option (OpId × Option OpId) → Type 0
IsFirstOther calls i other =
    MatchOption other ((m : ℕ) (call : Call) → m < i → slice_get calls m ≡ Some call → AnswersRight calls call)
    (λ found. IsOtherValue calls found.0 found.1)

-- a call that answers right changes nothing
pub first_right : (calls : List Call) (i : ℕ) (call : Call) (other : Option (OpId × Option OpId)) → slice_get calls i ≡ Some call → AnswersRight calls call
    → IsFirstOther calls i other → IsFirstOther calls (i + 1) other
first_right calls i call None at right before = all_more calls (AnswersRight calls) i call at right before
first_right calls i call (Some found) at right before = before

-- where one was found, the later ones change nothing
pub first_stays : (calls : List Call) (i : ℕ) (other : Option (OpId × Option OpId)) → is_some other ≡ true → IsFirstOther calls i other
    → IsFirstOther calls (i + 1) other
first_stays calls i None some before = absurd (false≢true some)
first_stays calls i (Some found) some before = before

-- a call that answers another value, where none before it does
pub first_found : (calls : List Call) → IsSequence calls → (i : ℕ) (call : Call) (write : Option OpId) (other : Option (OpId × Option OpId))
    → slice_get calls i ≡ Some call → AnswersOther calls call write → is_some other ≡ false → IsFirstOther calls i other → IsOtherValue calls call.op write
first_found calls sequence i call write None at found none before = record {
  call = call;
  recorded = Contains-slice_get calls i call at;
  number = refl;
  first = first_here calls sequence (AnswersAnother calls) i call at (write, found) (λ m earlier less there h. right_not_another calls earlier (before m earlier less there) h);
  other = found;
}
first_found calls sequence i call write (Some first) at found none before = absurd (false≢true (sym none))

-- the first of all calls
pub first_all : (calls : List Call) (i : ℕ) (other : Option (OpId × Option OpId)) → length calls ≤ i → IsFirstOther calls i other
    → MatchOption other (AllAnswerRight calls) (λ found. IsOtherValue calls found.0 found.1)
first_all calls i None past before = λ call there.
    let k = place_of calls call there in
    before k.0 call (omega (arith, slice_get_within calls k.0 call k.1)) k.1
first_all calls i (Some found) past before = before
