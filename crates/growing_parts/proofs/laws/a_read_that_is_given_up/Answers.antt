use Rattle.growing_parts.proofs.Leaving.{without_part, the_read, read_there, read_number, read_at, leaves_out}
use Rattle.growing_parts.proofs.Staying.{judged_stand, all_stay_read}
use Rattle.growing_parts.proofs.Without.{without}
use Rattle.growing_parts.proofs.laws.a_read_that_is_given_up.Goals as goal

pub returns : goal.returns
returns c rows key gone before op client formed is begun pending stays = record {
  after = without op.0 before;
  read = the_read rows key gone before is op formed client begun stays;
  part = without_part rows key gone before is op;
  there = read_there rows key gone before is op formed client begun stays;
  number = read_number rows key gone before is op formed client begun stays;
  begun = read_at rows key gone before is op formed client begun stays;
  leaves = leaves_out rows key gone before is op formed client begun stays pending;
  all_read = λ by source j all.
      let stands = judged_stand before source by j in
      let l = leaves_out rows key gone before is op formed client begun stays pending by stands in
      all_stay_read by by before (without op.0 before) l.goes l.last source j all;
}
