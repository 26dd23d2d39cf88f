use Rattle.std.proofs.Common.{Some, refl, ap}
use Rattle.serde_json.specs.Data.{number, unsigned}
use Rattle.row_members.specs.Values.{member_data}
use Rattle.file_format.proofs.row_document.kind_of.Goals as goal

pub returns-in-Number : goal.returns-in-Number
returns-in-Number c = (number (unsigned c.in-Number.field-0), ap (λ m. Some (member_data m)) c.in-Number.is, refl, refl)
