-- What a call is sorted by.
use Rattle.std.proofs.Common.{ℕ, ◌≡◌, inl, inr, Option, Some, None, Bool, true, false, not, true≢false, sym, ◌∙◌, subst, refl}
use Rattle.std.proofs.lemmas.Option.{same_Some}
use Rattle.tag.specs.declared.actions.Action.{Action}
use Rattle.tag.specs.declared.actions.Action.TheVariants.{Read, Write}
use Rattle.tag.specs.declared.numbers.OpId.{OpId}
use Rattle.tag.specs.Tags.{Tag}
use Rattle.recorder.specs.declared.part.Call.{Call}
use Rattle.recorder.specs.declared.part.Response.{Response}
use Rattle.recorder.specs.declared.record.CallState.{CallState}
use Rattle.recorder.specs.States.{IsStateOf, is_write, place_in}
use Rattle.recorder.specs.Sound.{IsRead, IsWrite, IsSettled}
use Rattle.witness_order.specs.declared.sort_key.SortKey.{SortKey}
use Rattle.witness_order.specs.Keys.{key_from, key_of}

-- the key says what the call is
pub record IsKeyOf (call : Call) (key : SortKey) : Type 0 where
  pub noted : call.note ≡ Some key.tag
  pub number : key.op ≡ call.op
  pub reads : key.is_read ≡ true → IsRead call
  pub writes : key.is_read ≡ false → IsWrite call
  pub settled : IsSettled call

module _ (call : Call) (key : SortKey) where
  key_by : (action : Action) (note : Option Tag) (response : Option Response) → call.action ≡ action → call.note ≡ note → call.response ≡ response → key_from call.op action note response ≡ Some key → IsKeyOf call key
  key_by action None response ea en er h = absurd (cc)
  key_by Read (Some tag) None ea en er h = absurd (cc)
  key_by Read (Some tag) (Some response) ea en er h =
      let made : SortKey = record { tag = tag; is_read = true; op = call.op } in
      let is : IsKeyOf call made = record {
        noted = en;
        number = refl;
        reads = λ e. ea;
        writes = λ e. absurd (true≢false e);
        settled = inl (response, er);
      } in
      subst (IsKeyOf call) (same_Some made key h) is
  key_by (Write value) (Some tag) response ea en er h =
      let made : SortKey = record { tag = tag; is_read = false; op = call.op } in
      let is : IsKeyOf call made = record {
        noted = en;
        number = refl;
        reads = λ e. absurd (true≢false (sym e));
        writes = λ e. (value, ea);
        settled = inr ((value, ea), (tag, en));
      } in
      subst (IsKeyOf call) (same_Some made key h) is

  -- a call's key
  pub key_is : key_of call ≡ Some key → IsKeyOf call key
  key_is h = key_by call.action call.note call.response refl refl refl h

-- a settled call with a note has a key
module _ (call : Call) (tag : Tag) (settled : IsSettled call) (noted : call.note ≡ Some tag) where
  has_key_by : (action : Action) (response : Option Response) → call.action ≡ action → call.response ≡ response → (key : SortKey) × (key_from call.op action (Some tag) response ≡ Some key)
  has_key_by (Write value) response ea er = (record { tag = tag; is_read = false; op = call.op }, refl)
  has_key_by Read (Some response) ea er = (record { tag = tag; is_read = true; op = call.op }, refl)
  has_key_by Read None ea er = absurd (elim settled [
    | inl done ↦ let answered = done.1 in cc
    | inr write ↦ let wrote = write.0.1 in cc
  ])

  pub has_key : (key : SortKey) × (key_of call ≡ Some key)
  has_key =
      let k = has_key_by call.action call.response refl refl in
      (k.0, subst (λ (note : Option Tag). key_from call.op call.action note call.response ≡ Some k.0) (sym noted) k.1)

-- the key by what a call's state says
abbrev pub key_with : OpId → Bool → Option Tag → Option ℕ → Option SortKey
key_with op writes None response = None
key_with op true (Some tag) response = Some (record { tag = tag; is_read = false; op = op })
key_with op false (Some tag) (Some place) = Some (record { tag = tag; is_read = true; op = op })
key_with op false (Some tag) None = None

with_parts : (op : OpId) (action : Action) (note : Option Tag) (response : Option Response) → key_from op action note response ≡ key_with op (is_write action) note (place_in response)
with_parts op action None response = refl
with_parts op (Write value) (Some tag) response = refl
with_parts op Read (Some tag) None = refl
with_parts op Read (Some tag) (Some response) = refl

pub key_of-state : (call : Call) (op : OpId) (state : CallState) → call.op ≡ op → IsStateOf call state → key_of call ≡ key_with op state.is_write state.note state.response
key_of-state call op state same of = with_parts call.op call.action call.note call.response ∙ rw (of.kind, of.note, of.response, sym same) refl

pub none_pending : (op : OpId) (writes : Bool) (note : Option Tag) (response : Option ℕ) → writes ≡ false → response ≡ None → None ≡ key_with op writes note response
none_pending op writes note response reads waits = rw (reads, waits) (by note)
  where
    by : (n : Option Tag) → None ≡ key_with op false n None
    by None = refl
    by (Some tag) = refl

pub none_unnoted : (op : OpId) (writes : Bool) (note : Option Tag) (response : Option ℕ) → note ≡ None → None ≡ key_with op writes note response
none_unnoted op writes note response none = rw none refl

pub some_key : (op : OpId) (writes : Bool) (note : Option Tag) (response : Option ℕ) (tag : Tag) → note ≡ Some tag → (writes ≡ false → response ≡ None → ⊥) → Some (record { tag = tag; is_read = not writes; op = op }) ≡ key_with op writes note response
some_key op writes note response tag noted settled = rw noted (by writes response settled)
  where
    by : (w : Bool) (r : Option ℕ) → (w ≡ false → r ≡ None → ⊥) → Some (record { tag = tag; is_read = not w; op = op }) ≡ key_with op w (Some tag) r
    by true r settled = refl
    by false (Some place) settled = refl
    by false None settled = absurd (settled refl refl)
