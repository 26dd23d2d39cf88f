use Rattle.file_format.proofs.WrittenOrders.{orders_text_of}
use Rattle.file_format.proofs.laws.a_text_is_read_as_its_orders_alone.Goals as goal

pub returns : goal.returns
returns c = λ orders others ranges distinct few read. (orders_text_of orders ranges distinct few).alone others read
