-- `pack_hard` meets its contract.
use mathlib.Core.Path.{refl}
use native.Mathlib.Omega.{arith}
use lib.ListN.{length, drop}
use Rattle.dictionary.proofs.Clearing.{filled}
use Rattle.packed_table.proofs.Going.{few_bytes, still-enough, told}
use Rattle.packed_table.proofs.pack_hard.Goals as goal

pub harden-requires : goal.harden-requires
harden-requires c = (c.requires.in_bounds, few_bytes c.args.table.now c.args.pool.now c.requires.enough.accepted)

pub pack_rows-fits-requires : goal.pack_rows-fits-requires
pack_rows-fits-requires c =
    let p = c.requires.by_index in (
      p.0,
      p.1,
      drop (length c.args.table.now) c.args.out_table.now,
      record {
        enough = still-enough c.fill.auto.self c.fill-2.auto.self c.copy_words.auto.table c.requires.enough;
        hashes = rw c.tables_of.ensures c.harden.ensures.dictionary.entries.tables;
        blank = record { unused = filled _ (c.fill.ensures.after (λ y e. e)); unmarked = filled _ (c.fill-2.ensures.after (λ y e. e)) };
        noted = p.2;
        copied = c.copy_words.ensures;
      },
    )

pub used-requires : goal.used-requires
used-requires c = let room = c.requires.enough.entries in let b = c.pack_rows-fits.auto.index in omega arith

pub returns : goal.returns
returns c = told refl c.used.ensures.0 c.pack_rows-fits.ensures
