-- Which modules are normal, and where a record leads to one.
use Rattle.std.specs.Prelude.{ℕ, Bool, true, false, cond, Some, None, Option}
use Rattle.values.specs.declared.values.ModuleKind.{ModuleKind}
use Rattle.values.specs.declared.values.ModuleKind.TheVariants as module_kind
use Rattle.tables.specs.Graph.{Graph}
use Rattle.tables.specs.Lookups.{module_at, importee_of}

abbrev pub is_normal : ModuleKind → Bool
is_normal module_kind.Normal = true
is_normal module_kind.External = false

-- only a normal module has entries; a module that is not there is none
abbrev pub normal : Graph → ℕ → Bool
normal g m = is_normal (module_at g m).kind

abbrev pub normal_only : Graph → Option ℕ → Option ℕ
normal_only g None = None
normal_only g (Some m) = cond (normal g m) (Some m) None

-- GetImportedModule, where it leads to a module with entries: an unresolved or external importee leads to nothing
abbrev pub imported_module : Graph → ℕ → Option ℕ
imported_module g r = normal_only g (importee_of g r)
