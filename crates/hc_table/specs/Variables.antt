-- The variables (manual: mod_rewrite, RewriteCond), and the fronts of the names of a header and of a variable of the
-- environment.
use Rattle.std.specs.Prelude.{[], ◌∷◌, codes}
use Rattle.hc_table.specs.declared.variable.Front.{Front}
use Rattle.hc_table.specs.declared.variable.Front.TheVariants as front
use Rattle.hc_table.specs.declared.variable.Variable.{Variable}
use Rattle.hc_table.specs.declared.variable.Variable.TheVariants as variable
use Rattle.hc_table.specs.Table.{Names}

unfoldable pub variable_rows : Names Variable
variable_rows =
    (codes "HTTP_HOST", variable.HttpHost) ∷
    (codes "HTTP_USER_AGENT", variable.HttpUserAgent) ∷
    (codes "HTTP_REFERER", variable.HttpReferer) ∷
    (codes "HTTP_COOKIE", variable.HttpCookie) ∷
    (codes "HTTP_ACCEPT", variable.HttpAccept) ∷
    (codes "REQUEST_METHOD", variable.RequestMethod) ∷
    (codes "REQUEST_SCHEME", variable.RequestScheme) ∷
    (codes "REQUEST_URI", variable.RequestUri) ∷
    (codes "REQUEST_FILENAME", variable.RequestFilename) ∷
    (codes "SCRIPT_FILENAME", variable.ScriptFilename) ∷
    (codes "PATH_INFO", variable.PathInfo) ∷
    (codes "QUERY_STRING", variable.QueryString) ∷
    (codes "REMOTE_ADDR", variable.RemoteAddr) ∷
    (codes "SERVER_ADDR", variable.ServerAddr) ∷
    (codes "SERVER_PORT", variable.ServerPort) ∷
    (codes "SERVER_NAME", variable.ServerName) ∷
    (codes "DOCUMENT_ROOT", variable.DocumentRoot) ∷
    (codes "HTTPS", variable.Https) ∷
    (codes "THE_REQUEST", variable.TheRequest) ∷ []

unfoldable pub front_rows : Names Front
front_rows = (codes "HTTP:", front.Header) ∷ (codes "ENV:", front.Environment) ∷ []
