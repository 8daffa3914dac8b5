use Rattle.std.proofs.Common.{vec_items, sym, refl, ◌∙◌}
use Rattle.tables.specs.Room.{rows_of}
use Rattle.tables.proofs.Packing.{row_modules}
use Rattle.tables.proofs.draft.Draft.slices.Goals as goal

pub returns : goal.returns
returns c =
    let s = c.args.self.now in
    record {
      mode = refl;
      modules = c.rows.ensures;
      symbols = c.rows-2.ensures;
      records = c.rows-3.ensures;
      statements = c.rows-4.ensures ∙ sym (row_modules (rows_of s.statements.modules) (vec_items s.statements.included.words));
      uses = c.rows-5.ensures;
      references = c.as_slice.ensures.value;
      imports = c.rows-6.ensures;
      exports = c.rows-7.ensures;
      constants = c.rows-8.ensures;
      names = refl;
    }
