-- What stands outside of a project: the names of the library and of the host ([MS-VBAL] 5.6.10).
use Rattle.std.specs.Prelude.{ℕ, Bool, true, false, ◌||◌, List, [], ◌∷◌, codes, bytes_eq, Option, Some, None, is_some}
use Rattle.std.specs.List.{list_any}
use Rattle.vba_lib.specs.declared.function.LibraryFunction.{LibraryFunction}
use Rattle.vba_lib.specs.Library.{has_text_form}
use Rattle.vba_lib.specs.Names.{function_named, constant_named, is_outside, is_outside_type}
use Rattle.binder.specs.Scopes.{Outside}

-- the names of the host that stand by themselves
abbrev pub host_names : List (List ℕ)
host_names =
    codes "application" ∷ codes "thisworkbook" ∷ codes "activeworkbook" ∷ codes "worksheets" ∷ codes "sheets" ∷ codes "activesheet" ∷
    codes "cells" ∷ codes "range" ∷ codes "err" ∷ codes "debug" ∷ []

abbrev pub is_host_name : List ℕ → Bool
is_host_name fold = list_any (bytes_eq fold) host_names

-- a function of the library that is written with `$`
abbrev pub is_text_function : Option LibraryFunction → Bool
is_text_function None = false
is_text_function (Some f) = has_text_form f

-- a name of the library, also of what VBA has and this library hasn't; with `$` a function that has a text form
abbrev pub is_library_name : List ℕ → Bool → Bool
is_library_name fold true = is_text_function (function_named fold) || is_outside fold
is_library_name fold false =
    is_some (function_named fold) || (is_some (constant_named fold) || (is_outside fold || (is_outside_type fold || bytes_eq fold (codes "error"))))

-- a function or a type of VBA that the language leaves out
abbrev pub is_left_out_name : List ℕ → Bool
is_left_out_name fold = is_outside fold || is_outside_type fold

abbrev pub the_outside : Outside
the_outside = record { constant = constant_named; is_library = is_library_name; is_left_out = is_left_out_name; is_host = is_host_name }
