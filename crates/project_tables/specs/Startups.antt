-- Serves the code: the macro to begin with.
use Rattle.bound_declarations.specs.constant_values.specs.declared_names.specs.binder.specs.Projects as projects
use Rattle.project_tables.specs.declared.startup.Startup.{Startup}

abbrev pub startup_view : Startup → projects.Startup
startup_view st = record { module_fold = st.module_fold.now; sub_fold = st.sub_fold.now }
