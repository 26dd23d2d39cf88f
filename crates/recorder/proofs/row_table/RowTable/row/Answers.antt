use Rattle.std.proofs.Common.{ℕ, List, Some, ap, ap₂, ◌∙◌, refl}
use Rattle.tag.specs.declared.actions.Action.{Action}
use Rattle.tag.specs.declared.actions.Action.TheVariants.{Write}
use Rattle.tag.specs.declared.actions.Returned.{Returned}
use Rattle.tag.specs.declared.actions.Returned.TheVariants.{Value}
use Rattle.recorder.specs.declared.row.Row.TheVariants.{Invoke, Respond}
use Rattle.recorder.specs.Texts.{text_at}
use Rattle.recorder.proofs.Tables.{stands, shown}
use Rattle.recorder.proofs.row_table.RowTable.row.Goals as goal

pub key-requires : goal.key-requires
key-requires c = rw (← c.self.view_is) (c.self.invariant.there c.args.place _ (stands c.self.inside c.args.self.now c.args.place c.index.result.now _ c.self.view_is c.requires c.index.ensures c.in-Read.is))

pub key-requires-in-Write : goal.key-requires-in-Write
key-requires-in-Write c = rw (← c.self.view_is) (c.self.invariant.there c.args.place _ (stands c.self.inside c.args.self.now c.args.place c.index.result.now _ c.self.view_is c.requires c.index.ensures c.in-Write.is)).0

pub value_at-requires : goal.value_at-requires
value_at-requires c = rw c.deref.ensures.value (c.self.invariant.there c.args.place _ (stands c.self.inside c.args.self.now c.args.place c.index.result.now _ c.self.view_is c.requires c.index.ensures c.in-Write.is)).1

pub value_at-requires-in-Answer : goal.value_at-requires-in-Answer
value_at-requires-in-Answer c = rw c.deref-in-Answer.ensures.value (c.self.invariant.there c.args.place _ (stands c.self.inside c.args.self.now c.args.place c.index.result.now _ c.self.view_is c.requires c.index.ensures c.in-Answer.is))

pub returns-in-Read : goal.returns-in-Read
returns-in-Read c =
    let at = stands c.self.inside c.args.self.now c.args.place c.index.result.now _ c.self.view_is c.requires c.index.ensures c.in-Read.is in
    let key = rw (← c.self.view_is) at c.key.ensures in
    shown c.self.inside c.args.self.now c.args.place _ _ c.self.view_is at (ap₂ (λ (k : List ℕ) (a : Action). Invoke c.in-Read.op c.in-Read.client k a) key c.read.ensures)

pub returns-in-Write : goal.returns-in-Write
returns-in-Write c =
    let at = stands c.self.inside c.args.self.now c.args.place c.index.result.now _ c.self.view_is c.requires c.index.ensures c.in-Write.is in
    let key = rw (← c.self.view_is) at c.key-in-Write.ensures in
    let text = c.value_at.ensures ∙ ap (λ (l : List ℕ). text_at l c.in-Write.value) c.deref.ensures.value in
    shown c.self.inside c.args.self.now c.args.place _ _ c.self.view_is at (ap₂ (λ (k : List ℕ) (a : Action). Invoke c.in-Write.op c.in-Write.client k a) key (c.write.ensures ∙ ap Write text))

pub returns-in-Note : goal.returns-in-Note
returns-in-Note c = shown c.self.inside c.args.self.now c.args.place _ _ c.self.view_is (stands c.self.inside c.args.self.now c.args.place c.index.result.now _ c.self.view_is c.requires c.index.ensures c.in-Note.is) refl

pub returns-in-Done : goal.returns-in-Done
returns-in-Done c = shown c.self.inside c.args.self.now c.args.place _ _ c.self.view_is (stands c.self.inside c.args.self.now c.args.place c.index.result.now _ c.self.view_is c.requires c.index.ensures c.in-Done.is) (ap (λ (r : Returned). Respond c.in-Done.op r) c.done.ensures)

pub returns-in-Absent : goal.returns-in-Absent
returns-in-Absent c = shown c.self.inside c.args.self.now c.args.place _ _ c.self.view_is (stands c.self.inside c.args.self.now c.args.place c.index.result.now _ c.self.view_is c.requires c.index.ensures c.in-Absent.is) (ap (λ (r : Returned). Respond c.in-Absent.op r) c.value.ensures)

pub returns-in-Answer : goal.returns-in-Answer
returns-in-Answer c =
    let text = c.value_at-in-Answer.ensures ∙ ap (λ (l : List ℕ). text_at l c.in-Answer.value) c.deref-in-Answer.ensures.value in
    shown c.self.inside c.args.self.now c.args.place _ _ c.self.view_is (stands c.self.inside c.args.self.now c.args.place c.index.result.now _ c.self.view_is c.requires c.index.ensures c.in-Answer.is) (ap (λ (r : Returned). Respond c.in-Answer.op r) (c.value-in-Answer.ensures ∙ ap (λ (v : List ℕ). Value (Some v)) text))
