use Rattle.split_rows.proofs.Nothing.{no_counts, no_pieces, none_moved}
use Rattle.split_rows.proofs.taken.Taken.new.Goals as goal

pub returns : goal.returns
returns c = record {
  number = λ op. op;
  some = c.requires;
  are = no_pieces c.args.parts c.new-2.result c.new-2.ensures;
  opens = c.new.ensures.rows;
  moved = none_moved c.args.parts c.new-2.result (λ op. op) c.new.result c.new.ensures.rows;
  counts = no_counts c.args.parts c.in_ok-vec.field-0.items (c.in_ok-vec.ensures.items_if_clones_equal (λ y same. same));
}
