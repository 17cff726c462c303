-- `pack` meets its contract.
use mathlib.Core.Path.{refl, sym, ap, ◌∙◌}
use mathlib.Core.Bool.{Bool, ◌&&◌}
use native.Mathlib.Omega.{arith}
use lib.ListN.{length, drop}
use Rattle.packed_table.proofs.Going.{dictionary-room, still-enough, told}
use Rattle.packed_table.proofs.pack.Goals as goal

pub is_plain-easy-requires : goal.is_plain-easy-requires
is_plain-easy-requires c = let room = dictionary-room c.requires.dictionary.0 in omega arith

pub tables_of-requires : goal.tables_of-requires
tables_of-requires c = let room = dictionary-room c.requires.dictionary.0 in omega arith

pub pack_rows-fits-requires : goal.pack_rows-fits-requires
pack_rows-fits-requires c =
    let p = c.requires.by_index in (
      p.0,
      p.1,
      drop (length c.args.table.now) c.args.out_table.now,
      record {
        enough = still-enough refl refl c.copy_words.auto.table c.requires.enough;
        hashes = rw c.tables_of.ensures c.requires.dictionary.0.entries.tables;
        blank = c.requires.dictionary.1;
        noted = p.2;
        copied = c.copy_words.ensures;
      },
    )

pub is_hard-requires : goal.is_hard-requires
is_hard-requires c = let room = c.requires.enough.entries in let b = c.pack_rows-fits.auto.index in omega arith

pub pack_hard-requires : goal.pack_hard-requires
pack_hard-requires c =
    record { enough = still-enough c.pack_rows-fits.auto.index c.pack_rows-fits.auto.starts (c.pack_rows-fits.auto.out_table ∙ c.copy_words.auto.table) c.requires.enough; in_bounds = dictionary-room c.requires.dictionary.0; by_index = c.requires.by_index }

pub shape_of-out_table-then-easy-is_hard : goal.shape_of-out_table-then-easy-is_hard
shape_of-out_table-then-easy-is_hard c = c.pack_hard.auto.out_table ∙ c.pack_rows-fits.auto.out_table ∙ c.copy_words.auto.table

pub used-requires : goal.used-requires
used-requires c = let room = c.requires.enough.entries in let b = c.pack_rows-fits.auto.index in omega arith

pub returns : goal.returns
returns c =
    told (ap (λ (h : Bool). c.is_plain-easy.result && h) (sym c.is_hard.ensures) ∙ c.if-easy-is_hard.false) c.used.ensures.0 c.pack_rows-fits.ensures
