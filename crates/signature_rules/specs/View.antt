-- Serves the code: the plain data that signatures stand for.
use Rattle.std.specs.Prelude.{List, map}
use Rattle.bound_project.specs.View.{declared_view}
use Rattle.signature_rules.specs.Signatures as plain
use Rattle.signature_rules.specs.declared.passed.Passed.{Passed}

abbrev pub passed_view : Passed → plain.Passed
passed_view p = record { of = declared_view p.of; is_array = p.is_array; by_value = p.is_by_value; optional = p.is_optional; many = p.is_param_array }

abbrev pub signature_view : List Passed → List plain.Passed
signature_view ps = map passed_view ps
