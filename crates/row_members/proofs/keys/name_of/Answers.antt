use Rattle.std.proofs.Common.{ℕ, ◌≡◌, inl, inr, get_or, sym, ap, ◌∙◌, arith}
use Rattle.std.proofs.lemmas.Bool.{cases_lt, false≢true}
use Rattle.std.proofs.lemmas.Bool.Decides.{Decides-eqb}
use Rattle.std.proofs.lemmas.Slice.Eq.{slice_eq-Decides}
use Rattle.row_members.specs.declared.name.Name.TheVariants.{Call}
use Rattle.row_members.specs.Names.{text_of, place_of}
use Rattle.row_members.proofs.Entries.{names, named_at}
use Rattle.row_members.proofs.keys.name_of.Goals as goal

pub loop-place-preserved : goal.loop-place-preserved
loop-place-preserved c = λ name before is. elim (cases_lt (place_of name) c.loop-place.place) [
  | inl early ↦ c.loop-place.invariant name early is
  | inr late ↦
      let here : c.loop-place.place ≡ place_of name = omega (arith, before, late) in
      let own : c.text.result.now ≡ text_of name =
      c.text.ensures ∙ ap (λ (k : ℕ). text_of (get_or names k Call)) here ∙ ap text_of (named_at name) in
      false≢true (sym c.if-eq.false ∙ (slice_eq-Decides Decides-eqb _ _ _ c.eq.ensures).1 (is ∙ sym own ∙ sym c.as_bytes.ensures.value))
]
