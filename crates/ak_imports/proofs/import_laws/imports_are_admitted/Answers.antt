use Rattle.ak_imports.proofs.Admitting.{imports_are_admitted}
use Rattle.ak_imports.specs.Imports.{arrival_of}
use Rattle.ak_imports.proofs.import_laws.imports_are_admitted.Goals as goal

pub returns : goal.returns
returns c = λ at given held end named are. imports_are_admitted (arrival_of given at) given.records held end named are
