use Rattle.tag_check.proofs.Soundness.{sound_of_none}
use Rattle.tag_check.proofs.ByTag.{none_shared_all}
use Rattle.tag_check.proofs.notes.Notes.broken_rule.Goals as goal

pub by_tag-requires : goal.by_tag-requires
by_tag-requires c = (rw c.in-Ok.is at c.in_ok-noted.ensures).2

pub returns-in-Err-by_tag : goal.returns-in-Err-by_tag
returns-in-Err-by_tag c =
    let noted = rw c.in-Ok.is at c.in_ok-noted.ensures in
    ((noted.0, noted.1), c.in-Err-by_tag.ensures)

pub returns-in-Some : goal.returns-in-Some
returns-in-Some c =
    let noted = rw c.in-Ok.is at c.in_ok-noted.ensures in
    ((noted.0, noted.1, none_shared_all c.args.self.now.part.now c.in-Ok-by_tag.ensures.own), rw c.in-Some.is at c.in_ok-earlier.ensures)

pub returns-in-Err-first_other_value : goal.returns-in-Err-first_other_value
returns-in-Err-first_other_value c =
    let noted = rw c.in-Ok.is at c.in_ok-noted.ensures in
    let above = rw c.in_default.is at c.in_ok-earlier.ensures in
    ((noted.0, noted.1, none_shared_all c.args.self.now.part.now c.in-Ok-by_tag.ensures.own, above), rw c.in-Err-first_other_value.is at c.first_other_value.ensures)

pub returns-in-Some-other : goal.returns-in-Some-other
returns-in-Some-other c =
    let noted = rw c.in-Ok.is at c.in_ok-noted.ensures in
    let above = rw c.in_default.is at c.in_ok-earlier.ensures in
    let answers = rw c.in-Ok-first_other_value.is at c.first_other_value.ensures in
    ((noted.0, noted.1, none_shared_all c.args.self.now.part.now c.in-Ok-by_tag.ensures.own, above, answers.0), rw c.in-Some-other.is at answers.1)

pub returns : goal.returns
returns c =
    let s = c.args.self.now in
    let noted = rw c.in-Ok.is at c.in_ok-noted.ensures in
    let above = rw c.in_default.is at c.in_ok-earlier.ensures in
    let answers = rw c.in-Ok-first_other_value.is at c.first_other_value.ensures in
    let right = rw c.in_default-other.is at answers.1 in
    sound_of_none s.part.now s.sequence c.in-Ok-by_tag.writes.items c.in-Ok-by_tag.ensures noted.0 noted.1 above answers.0 right
