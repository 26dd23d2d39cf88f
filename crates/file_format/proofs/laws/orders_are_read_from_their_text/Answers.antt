use Rattle.file_format.proofs.WrittenOrders.{orders_read}
use Rattle.file_format.proofs.laws.orders_are_read_from_their_text.Goals as goal

pub returns : goal.returns
returns c = λ orders ranges distinct few. orders_read orders ranges distinct few
