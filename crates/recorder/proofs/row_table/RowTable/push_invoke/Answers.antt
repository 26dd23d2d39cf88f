use Rattle.std.proofs.Common.{ℕ, ◌≡◌, ◌≤◌, List, [], Some, take, refl, sym, ap, ap₂, subst, ◌∙◌, arith, length}
use Rattle.std.proofs.lemmas.Option.{same_Some}
use Rattle.recorder.specs.Shown.{written_of}
use Rattle.std.proofs.lemmas.Bool.{leb-true}
use Rattle.std.proofs.lemmas.List.{append-nil, take_at}
use Rattle.tag.specs.Limits.{value_limit}
use Rattle.recorder.specs.Texts.{text_at, IsValueAt}
use Rattle.tag.specs.declared.actions.Action.{Action}
use Rattle.tag.specs.declared.actions.Action.TheVariants.{Write}
use Rattle.tag.proofs.Lists.{same_push}
use Rattle.recorder.specs.declared.row.Row.TheVariants.{Invoke}
use Rattle.recorder.proofs.Tables.{kept-same, pushed, seen-begun, shown-pushed, room, numbered, numbered-below, numbered-key, value-last, text-last, extends}
use Rattle.recorder.proofs.row_table.RowTable.push_invoke.Goals as goal

pub invariant_of-self-in_err-key : goal.invariant_of-self-in_err-key
invariant_of-self-in_err-key c = kept-same c.self.inside _ c.self.invariant c.in_ok-reserve.ensures.items refl c.in_err-key.ensures.err

pub overflow_cast-key : goal.overflow_cast-key
overflow_cast-key c =
    let n = numbered c.in_ok-key.ensures.ok in
    omega (arith, numbered-below c.in_ok-key.ensures.ok, n.3, c.self.invariant.keys, c.self.invariant.few)

pub invariant_of-self-in_err-value : goal.invariant_of-self-in_err-value
invariant_of-self-in_err-value c = kept-same c.self.inside _ c.self.invariant c.in_ok-reserve.ensures.items c.in_err-value.ensures.err refl

pub invariant_of-self-in_default-number_text : goal.invariant_of-self-in_default-number_text
invariant_of-self-in_default-number_text c =
    let t = c.self.inside in
    let kept : length t.texts.items ≡ c.len-kept.result = omega (arith, c.len-kept.ensures, t.texts.ok.0) in
    let texts = c.truncate.ensures.items ∙ (ap (λ (l : List ℕ). take c.len-kept.result l) c.in_ok-value.ensures.texts ∙ take_at t.texts.items _ c.len-kept.result kept) in
    kept-same t _ c.self.invariant c.in_ok-reserve.ensures.items texts c.in_default-number_text.ensures.err

pub invariant_of-self-in_default : goal.invariant_of-self-in_default
invariant_of-self-in_default c =
    let t = c.self.inside in
    let n = numbered c.in_ok-key.ensures.ok in
    pushed t _ c.self.invariant _ n.0 [] (same_push t.rows.items _ _ _ c.in_ok-reserve.ensures.items c.in_ok-push.ensures.items) n.1 (sym (append-nil t.texts.items))
    (room t c.args.self.now c.self.view_is c.requires.few) (numbered-below c.in_ok-key.ensures.ok) (omega (arith)) (omega (arith, n.3, c.self.invariant.keys))
    (seen-begun t (record { rows = c.push.new.self; texts = t.texts; keys = c.number_text.new.self }) c.self.invariant _ n.0 [] (same_push t.rows.items _ _ _ c.in_ok-reserve.ensures.items c.in_ok-push.ensures.items) n.1 (sym (append-nil t.texts.items))
    c.args.op c.args.client c.args.key.now c.args.action.now _ (ap₂ (λ (k : List ℕ) (a : Action). Invoke c.args.op c.args.client k a) (numbered-key c.in_ok-key.ensures.ok) (sym c.in_default.ensures.read)) c.in_ok-key.ensures.ok)

pub returns-in_default-clause-ok : goal.returns-in_default-clause-ok
returns-in_default-clause-ok c =
    let t = c.self.inside in
    let n = numbered c.in_ok-key.ensures.ok in
    shown-pushed t (record { rows = c.push.new.self; texts = t.texts; keys = c.number_text.new.self }) c.args.self.now c.self.view_is c.self.invariant _ n.0 [] (same_push t.rows.items _ _ _ c.in_ok-reserve.ensures.items c.in_ok-push.ensures.items) n.1 (sym (append-nil t.texts.items))
    _ (ap₂ (λ (k : List ℕ) (a : Action). Invoke c.args.op c.args.client k a) (numbered-key c.in_ok-key.ensures.ok) (sym c.in_default.ensures.read))

pub overflow_cast-key-2 : goal.overflow_cast-key-2
overflow_cast-key-2 c =
    let t = c.self.inside in
    let n = numbered c.in-Ok.ensures.ok in
    omega (arith, numbered-below c.in-Ok.ensures.ok, n.3, c.self.invariant.keys, c.self.invariant.few)

pub invariant_of-self-2 : goal.invariant_of-self-2
invariant_of-self-2 c =
    let t = c.self.inside in
    let n = numbered c.in-Ok.ensures.ok in
    let text = c.as_str.result.now in
    let span = c.in_ok-value.ensures.span in
    let short : length c.as_str.result.now ≤ value_limit = rw c.as_str.ensures.text (leb-true (length c.in-Some.value) value_limit c.as_str.ensures.lawful) in
    let value : IsValueAt c.keep_text.new.texts.items c.in_ok-value.value = rw c.in_ok-value.ensures.texts (value-last t.texts.items text c.in_ok-value.value span.0 span.1 short c.as_str.utf8) in
    let same = ap (λ (l : List ℕ). text_at l c.in_ok-value.value) c.in_ok-value.ensures.texts ∙ text-last t.texts.items text c.in_ok-value.value span.0 span.1 ∙ c.as_str.ensures.text in
    pushed t _ c.self.invariant _ n.0 text (same_push t.rows.items _ _ _ c.in_ok-reserve.ensures.items c.in_ok-push-2.ensures.items) n.1 c.in_ok-value.ensures.texts
    (room t c.args.self.now c.self.view_is c.requires.few) (numbered-below c.in-Ok.ensures.ok, value) short (omega (arith, n.3, c.self.invariant.keys))
    (seen-begun t (record { rows = c.push-2.new.self; texts = c.keep_text.new.texts; keys = c.number_text-2.new.self }) c.self.invariant _ n.0 text (same_push t.rows.items _ _ _ c.in_ok-reserve.ensures.items c.in_ok-push-2.ensures.items) n.1 c.in_ok-value.ensures.texts
    c.args.op c.args.client c.args.key.now c.args.action.now _ (ap₂ (λ (k : List ℕ) (a : Action). Invoke c.args.op c.args.client k a) (numbered-key c.in-Ok.ensures.ok) (ap Write same ∙ sym c.in-Some.ensures.write)) c.in-Ok.ensures.ok)

pub returns-clause-ok : goal.returns-clause-ok
returns-clause-ok c =
    let t = c.self.inside in
    let n = numbered c.in-Ok.ensures.ok in
    let text = c.as_str.result.now in
    let span = c.in_ok-value.ensures.span in
    let same = ap (λ (l : List ℕ). text_at l c.in_ok-value.value) c.in_ok-value.ensures.texts ∙ text-last t.texts.items text c.in_ok-value.value span.0 span.1 ∙ c.as_str.ensures.text in
    shown-pushed t (record { rows = c.push-2.new.self; texts = c.keep_text.new.texts; keys = c.number_text-2.new.self }) c.args.self.now c.self.view_is c.self.invariant _ n.0 text
    (same_push t.rows.items _ _ _ c.in_ok-reserve.ensures.items c.in_ok-push-2.ensures.items) n.1 c.in_ok-value.ensures.texts
    _ (ap₂ (λ (k : List ℕ) (a : Action). Invoke c.args.op c.args.client k a) (numbered-key c.in-Ok.ensures.ok) (ap Write same ∙ sym c.in-Some.ensures.write))

pub returns-in_default-clause-grows : goal.returns-in_default-clause-grows
returns-in_default-clause-grows c =
    let t = c.self.inside in
    let n = numbered c.in_ok-key.ensures.ok in
    extends t (record { rows = c.push.new.self; texts = t.texts; keys = c.number_text.new.self }) c.args.self.now c.self.view_is n.0 [] n.1 (sym (append-nil t.texts.items))

pub returns-in_default-clause-key : goal.returns-in_default-clause-key
returns-in_default-clause-key c = (numbered c.in_ok-key.ensures.ok).2

pub returns-in_default-clause-value : goal.returns-in_default-clause-value
returns-in_default-clause-value c = record { there = λ span is. absurd (cc); shown = ap written_of (sym c.in_default.ensures.read) }

pub returns-clause-grows : goal.returns-clause-grows
returns-clause-grows c =
    let t = c.self.inside in
    let n = numbered c.in-Ok.ensures.ok in
    extends t (record { rows = c.push-2.new.self; texts = c.keep_text.new.texts; keys = c.number_text-2.new.self }) c.args.self.now c.self.view_is n.0 c.as_str.result.now n.1 c.in_ok-value.ensures.texts

pub returns-clause-key : goal.returns-clause-key
returns-clause-key c = (numbered c.in-Ok.ensures.ok).2

pub returns-clause-value : goal.returns-clause-value
returns-clause-value c =
    let t = c.self.inside in
    let text = c.as_str.result.now in
    let span = c.in_ok-value.ensures.span in
    let short : length c.as_str.result.now ≤ value_limit = rw c.as_str.ensures.text (leb-true (length c.in-Some.value) value_limit c.as_str.ensures.lawful) in
    let value : IsValueAt c.keep_text.new.texts.items c.in_ok-value.value = rw c.in_ok-value.ensures.texts (value-last t.texts.items text c.in_ok-value.value span.0 span.1 short c.as_str.utf8) in
    let same = ap (λ (l : List ℕ). text_at l c.in_ok-value.value) c.in_ok-value.ensures.texts ∙ text-last t.texts.items text c.in_ok-value.value span.0 span.1 ∙ c.as_str.ensures.text in
    record {
      there = λ span is. subst (λ s. IsValueAt c.keep_text.new.texts.items s) (same_Some _ _ is) value;
      shown = ap Some same ∙ ap written_of (sym c.in-Some.ensures.write);
    }
