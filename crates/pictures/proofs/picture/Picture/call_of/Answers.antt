use Rattle.pictures.proofs.Finding.{found_call, found_none}
use Rattle.pictures.proofs.picture.Picture.call_of.Goals as goal

pub returns-in-Some : goal.returns-in-Some
returns-in-Some c =
    let part = c.args.self.now.part.now in
    found_call part c.args.op c.len-sequence.ensures.sequence c.in-Some.index _ c.call.ensures c.in-Some.ensures.found

pub returns-in-None : goal.returns-in-None
returns-in-None c = found_none c.args.self.now.part.now c.args.op c.in-None.ensures.none
