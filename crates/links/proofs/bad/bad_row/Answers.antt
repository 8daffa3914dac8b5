use Rattle.std.proofs.Common.{◌≡◌, [], ◌∷◌, rules, tests, sym, ap, ◌∙◌}
use Rattle.std.specs.Option.{option_or}
use Rattle.line.specs.declared.kinds.LoadKind.TheVariants.{Module, Symbol, Record, Statement, Uses, Reads, Member, Import, Export, Constant}
use Rattle.tables.specs.References.{reads_in, members_in}
use Rattle.tables.specs.Slices.{module_of_statement}
use Rattle.tables.specs.View.{graph, limits_of}
use Rattle.links.specs.Bad.{first_bad}
use Rattle.links.specs.Rows.{bad_module, bad_symbol, bad_record, bad_module_of_statement, bad_statement, bad_uses, bad_reads, bad_member, bad_import, bad_export, bad_constant}
use Rattle.links.proofs.Order.{or_else_is, joined, joined_is, judged_by, reads_are, members_are}
use Rattle.links.proofs.Soundness.{sound_is}
use Rattle.links.proofs.bad.bad_row.Goals as goal

pub returns : goal.returns
returns c =
    let g = graph c.args.draft.now in
    let names = (limits_of c.args.draft.now).names in
    let modules = first_bad Module (bad_module names g) g.modules in
    let symbols = first_bad Symbol (bad_symbol names g) g.symbols in
    let records = first_bad Record (bad_record names g) g.records in
    let statements = first_bad Statement (bad_statement names g) g.statements in
    let uses = first_bad Uses (bad_uses names g) g.uses in
    let reads = first_bad Reads (bad_reads names g) (reads_in g.references) in
    let members = first_bad Member (bad_member names g) (members_in g.references) in
    let imports = first_bad Import (bad_import names g) g.imports in
    let exports = first_bad Export (bad_export names g) g.exports in
    let constants = first_bad Constant (bad_constant names g) g.constants in
    let at_modules : c.first_bad.result ≡ modules = search (rules, tests) in
    let at_symbols : c.or_else.result ≡ option_or c.first_bad.result symbols = or_else_is c.first_bad.result c.or_else.result symbols c.or_else.ensures (λ q. search (rules, tests)) in
    let at_records : c.or_else-2.result ≡ option_or c.or_else.result records = or_else_is c.or_else.result c.or_else-2.result records c.or_else-2.ensures (λ q. search (rules, tests)) in
    let at_statements : c.or_else-3.result ≡ option_or c.or_else-2.result statements = or_else_is c.or_else-2.result c.or_else-3.result statements c.or_else-3.ensures (λ q. search (rules, tests) ∙ judged_by Statement (bad_module_of_statement names g) module_of_statement g.statements) in
    let at_uses : c.or_else-4.result ≡ option_or c.or_else-3.result uses = or_else_is c.or_else-3.result c.or_else-4.result uses c.or_else-4.ensures (λ q. search (rules, tests)) in
    let at_reads : c.or_else-5.result ≡ option_or c.or_else-4.result reads = or_else_is c.or_else-4.result c.or_else-5.result reads c.or_else-5.ensures (λ q. search (rules, tests) ∙ ap (first_bad Reads (bad_reads names g)) (reads_are g.references)) in
    let at_members : c.or_else-6.result ≡ option_or c.or_else-5.result members = or_else_is c.or_else-5.result c.or_else-6.result members c.or_else-6.ensures (λ q. search (rules, tests) ∙ ap (first_bad Member (bad_member names g)) (members_are g.references)) in
    let at_imports : c.or_else-7.result ≡ option_or c.or_else-6.result imports = or_else_is c.or_else-6.result c.or_else-7.result imports c.or_else-7.ensures (λ q. search (rules, tests)) in
    let at_exports : c.or_else-8.result ≡ option_or c.or_else-7.result exports = or_else_is c.or_else-7.result c.or_else-8.result exports c.or_else-8.ensures (λ q. search (rules, tests)) in
    let at_constants : c.or_else-9.result ≡ option_or c.or_else-8.result constants = or_else_is c.or_else-8.result c.or_else-9.result constants c.or_else-9.ensures (λ q. search (rules, tests)) in
    let from_left : c.or_else-9.result ≡ joined modules (symbols ∷ records ∷ statements ∷ uses ∷ reads ∷ members ∷ imports ∷ exports ∷ constants ∷ []) = cc in
    let value = from_left ∙ joined_is modules (symbols ∷ records ∷ statements ∷ uses ∷ reads ∷ members ∷ imports ∷ exports ∷ constants ∷ []) in
    record { value = value; sound = ((λ none. (sound_is names g).0 (sym value ∙ none)), λ s. value ∙ (sound_is names g).1 s) }
