-- `escaping::put_byte` meets its contract.
use Rattle.escaping.proofs.Bytes.{escape-short, made-within, made-count, made-put}
use Rattle.escapes.specs.Escapes.{escape}
use Rattle.escaping.proofs.put_byte.Goals as goal

pub slice_bounds-bytes-end : goal.slice_bounds-bytes-end
slice_bounds-bytes-end c = made-within (escape _ _) (escape-short _ _) c.write_byte-end.ensures

pub slice_bounds-put_bytes-end : goal.slice_bounds-put_bytes-end
slice_bounds-put_bytes-end c = made-count (escape _ _) (escape-short _ _) c.write_byte-end.ensures

pub returns : goal.returns
returns c =
    made-put (escape c.args.quoted c.args.b) (escape-short c.args.quoted c.args.b) c.write_byte-end.ensures c.put_bytes.ensures
