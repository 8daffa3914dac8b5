-- The two sets of limits.
use Rattle.tables.specs.declared.limits.Limits.{Limits}

abbrev pub full_limits : Limits
full_limits = record {
  modules = 256;
  symbols = 4096;
  records = 2048;
  statements = 4096;
  uses = 4096;
  reads = 4096;
  members = 4096;
  imports = 2048;
  exports = 2048;
  constants = 1024;
  carriers = 1024;
  binds = 2048;
  names = 2048;
}

abbrev pub small_limits : Limits
small_limits = record {
  modules = 16;
  symbols = 64;
  records = 32;
  statements = 64;
  uses = 64;
  reads = 64;
  members = 64;
  imports = 64;
  exports = 64;
  constants = 64;
  carriers = 16;
  binds = 64;
  names = 32;
}
