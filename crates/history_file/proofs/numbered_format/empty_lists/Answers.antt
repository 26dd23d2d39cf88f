use Rattle.std.proofs.Common.{ℕ, ◌≡◌, [], ◌∷◌, length, length-append, sym, ap, subst, arith, List}
use Rattle.std.specs.Prelude.{All}
use Rattle.std.proofs.lemmas.List.Elements.{All-push}
use Rattle.history_file.proofs.numbered_format.empty_lists.Goals as goal

pub loop-preserved : goal.loop-preserved
loop-preserved c =
    let lists = c.loop.lists.items in
    let IsEmpty : List ℕ → Type 0 = λ lines. lines ≡ [] in
    record {
      count = omega (arith, ap length c.in_ok-push.ensures.items, length-append lists (c.new.result ∷ []), c.loop.invariant.count);
      empty = subst (λ (all : List (List ℕ)). All IsEmpty all) (sym c.in_ok-push.ensures.items) (All-push IsEmpty lists c.new.result c.loop.invariant.empty c.new.ensures);
    }
