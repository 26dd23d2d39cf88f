use Rattle.std.proofs.Common.{arith}
use Rattle.growing_parts.proofs.Leaving.{reads_more}
use Rattle.growing_parts.proofs.NextParts.{reads_next}
use Rattle.growing_parts.proofs.laws.given_up_reads_stay_reads.Goals as goal

pub returns : goal.returns
returns c = record {
  none = λ rows op h. absurd (omega (arith, h.1));
  next = λ rows row gone are. reads_next rows row gone are;
  more = λ rows gone op client key are begun. reads_more rows gone are op client key begun;
}
