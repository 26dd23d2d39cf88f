use Rattle.std.proofs.Common.{arith, ◌≡◌, ◌<◌, ◌≤◌, ℕ, List, Some, true, false, ap, sym, ◌∙◌, get_or, length, length-set}
use Rattle.std.specs.List.{slice_get}
use Rattle.std.proofs.lemmas.Option.{slice_get-get_or}
use Rattle.certificate_check.proofs.Stands.{repeated_call, repeated_index, once_more, listed_more, marked_more, Marks-from_indexes}
use Rattle.certificate_check.proofs.listing.Listing.marks.Goals as goal

-- what a copy of a list has at a place, the list has there
listed_at : (indexes list : List ℕ) (i : ℕ) → list ≡ indexes → i < length list → slice_get indexes i ≡ Some (get_or list i 0)
listed_at indexes list i same within = ap (λ (xs : List ℕ). slice_get xs i) (sym same) ∙ slice_get-get_or list i 0 within

pub index_mut-requires : goal.index_mut-requires
index_mut-requires c =
    let s = c.args.self.now in
    let x = get_or c.deref-index-items.result.now c.loop-i.i 0 in
    let at : slice_get s.indexes.items c.loop-i.i ≡ Some x = listed_at s.indexes.items c.deref-index-items.result.now c.loop-i.i c.deref-index-items.ensures.value c.loop-i-test.true in
    omega (arith, s.located.within c.loop-i.i x at, c.loop-i.marks.ok.0, c.loop-i.invariant.all)

pub returns-then-index : goal.returns-then-index
returns-then-index c =
    let s = c.args.self.now in
    let at : slice_get s.indexes.items c.loop-i.i ≡ Some (get_or c.deref-index-items.result.now c.loop-i.i 0) =
    listed_at s.indexes.items c.deref-index-items.result.now c.loop-i.i c.deref-index-items.ensures.value c.loop-i-test.true in
    let small : get_or c.deref-index-items.result.now c.loop-i.i 0 < length c.loop-i.marks.items =
    omega (arith, s.located.within c.loop-i.i (get_or c.deref-index-items.result.now c.loop-i.i 0) at, c.loop-i.invariant.all) in
    let m = c.loop-i.invariant.listed _ (slice_get-get_or c.loop-i.marks.items _ c.index.result.now small
    ∙ ap Some (sym c.index.ensures ∙ c.if-index.true)) in
    (repeated_call s.part.now s.order.now s.indexes.items s.sequence s.located c.loop-i.i m.0 m.1 (omega (arith, c.loop-i-test.true, ap length c.deref-index-items.ensures.value)) (m.2 ∙ sym at), λ n less found. c.loop-i.invariant.once n less (repeated_index s.part.now s.order.now s.indexes.items s.sequence s.located n found))

pub loop-i-preserved : goal.loop-i-preserved
loop-i-preserved c =
    let s = c.args.self.now in
    let x = get_or c.deref-index-items.result.now c.loop-i.i 0 in
    let at : slice_get s.indexes.items c.loop-i.i ≡ Some x = listed_at s.indexes.items c.deref-index-items.result.now c.loop-i.i c.deref-index-items.ensures.value c.loop-i-test.true in
    let small : x < length c.loop-i.marks.items = omega (arith, s.located.within c.loop-i.i x at, c.loop-i.invariant.all) in
    let free : slice_get c.loop-i.marks.items x ≡ Some false = slice_get-get_or c.loop-i.marks.items x c.index.result.now small ∙ ap Some (sym c.index.ensures ∙ c.if-index.false) in
    record {
      all = length-set c.loop-i.marks.items x true ∙ c.loop-i.invariant.all;
      once = once_more s.indexes.items c.loop-i.marks.items c.loop-i.i x at small free c.loop-i.invariant.marked c.loop-i.invariant.once;
      listed = listed_more s.indexes.items c.loop-i.marks.items c.loop-i.i x at small c.loop-i.invariant.listed;
      marked = marked_more s.indexes.items c.loop-i.marks.items c.loop-i.i x at small c.loop-i.invariant.marked;
    }

pub returns : goal.returns
returns c =
    let s = c.args.self.now in
    let past : length s.order.now ≤ c.loop-i.i = omega (arith, c.loop-i-test.false, ap length c.deref-index-items.ensures.value, s.located.all) in (
      λ n found. c.loop-i.invariant.once n (omega (arith, found.0)) (repeated_index s.part.now s.order.now s.indexes.items s.sequence s.located n found),
      Marks-from_indexes s.part.now s.order.now s.indexes.items c.loop-i.marks.items c.loop-i.i s.sequence s.located past c.loop-i.invariant.all c.loop-i.invariant.listed c.loop-i.invariant.marked,
    )
