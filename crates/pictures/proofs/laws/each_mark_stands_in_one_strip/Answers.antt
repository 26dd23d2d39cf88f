use Rattle.labels.proofs.Cutting.{stands_once}
use Rattle.pictures.specs.Cuts.{cut_rows}
use Rattle.pictures.specs.Layout.{row_of_dot, row_of_gap, row_of_place}
use Rattle.pictures.proofs.Rows.{dot_within_rows, gap_within_rows, tick_within_rows}
use Rattle.pictures.proofs.laws.each_mark_stands_in_one_strip.Goals as goal

pub returns : goal.returns
returns c = λ scene ordered. record {
  ticks = λ i place at. stands_once (cut_rows scene) (row_of_place scene place) (tick_within_rows scene ordered i place at);
  dots = λ i dot at. stands_once (cut_rows scene) (row_of_dot scene i dot.place) (dot_within_rows scene ordered i dot at);
  gaps = λ i gap at. stands_once (cut_rows scene) (row_of_gap scene i gap.place) (gap_within_rows scene ordered i gap at);
}
