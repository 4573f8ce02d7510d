mod PurgeLaws
