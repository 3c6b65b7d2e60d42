-- `put` stores the bytes of the two numbers of a processor.
use Rattle.processors.proofs.Image.{two_numbers}
use Rattle.processors.proofs.bytes.U8Item.put.Goals as goal

pub returns : goal.returns
returns c = two_numbers c.args.list.now c.args.n c.args.processor.uid c.args.processor.id c.put_number.ensures c.put_number-2.ensures
